use Rattle.book_sound.proofs.SoundFacts.{accounts_are_rooted}
use Rattle.book_step.proofs.account_edit.check_moved.Goals as goal

pub check_move-requires : goal.check_move-requires
check_move-requires c = accounts_are_rooted _ c.present.invariant.book
