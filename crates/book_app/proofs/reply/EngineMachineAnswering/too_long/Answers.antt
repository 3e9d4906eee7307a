use Rattle.std.proofs.Common.{◌≡◌, Bool, MatchBool, length, ◌^◌, refl, sym, ap, subst, ◌∙◌}
use Rattle.std.proofs.lemmas.Result.{IfOk-weaker}
use Rattle.std.proofs.lemmas.Bool.{lt-ltb}
use Rattle.book_engine.specs.Books.{machine_kept}
use Rattle.book_texts.specs.RefusedText.{too_long_bytes}
use Rattle.book_texts.proofs.OwnLineLemmas.{too_long-own_line}
use Rattle.book_app.specs.Machine.{Replies}
use Rattle.book_app.proofs.ReplyLemmas.{IsAnswer-own_line}
use Rattle.book_app.proofs.reply.EngineMachineAnswering.too_long.Goals as goal

pub returns-clause-answered : goal.returns-clause-answered
returns-clause-answered g c =
    let state = machine_kept c.args.self.now in
    IfOk-weaker c.too_long_text.result _ _
    (λ text is. (
      IsAnswer-own_line text _ is (too_long-own_line c.args.size),
      λ line size long.
          subst (λ (t : Bool). MatchBool t ((text ≡ too_long_bytes (length line)) × (state ≡ state))
          (Replies state line text state))
          (sym (lt-ltb (2 ^ 23) (length line) long)) (is ∙ ap too_long_bytes (sym size), refl),
    ))
    c.too_long_text.ensures
