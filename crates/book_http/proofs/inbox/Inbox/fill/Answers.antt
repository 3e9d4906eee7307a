use Rattle.std.proofs.Common.{◌≡◌, ◌+◌, ◌≤◌, ◌∙◌, ap, take, drop, length, arith, List, ℕ}
use Rattle.book_http.proofs.InboxLemmas.{front_kept, piece_kept, piece_dropped, HasRead-nothing, HasRead-piece}
use Rattle.book_http.proofs.inbox.Inbox.fill.Goals as goal

-- the bytes that were read stand behind the old ones
pub returns-in-Ok-clause-read : goal.returns-in-Ok-clause-read
returns-in-Ok-clause-read g c =
    let old = c.self.inside.bytes.items in
    let size = length c.as_slice-size.result.now in
    let written = c.read_behind.new.buffer in
    let count = c.in-Ok.count in
    let front : take size written ≡ old = c.in-Ok.ensures.kept
    ∙ ap (λ (l : List ℕ). take size l) (c.deref_mut.ensures.value ∙ c.in_ok-resize.ensures.items)
    ∙ front_kept old _ size 65536 (ap length c.as_slice-size.ensures.value) in
    let long : length written ≡ length c.deref_mut.result.now = c.read_behind.auto.buffer in
    let room : size + count ≤ c.resize.new.self.len =
    omega (arith, c.in-Ok.ensures.within, long, c.deref_mut.ensures.len) in
    HasRead-piece c.args.self.now c.truncate.new.self.items (take count (drop size written))
    (g.S.Source.left c.args.link.now) (g.S.Source.left c.read_behind.new.link) old c.self.view_is
    (c.truncate.ensures.items ∙ piece_kept old written _ _ size count front c.in-Ok.ensures.within room)
    c.in-Ok.ensures.taken

-- nothing was read, and the old bytes stay
pub returns-in-Err-clause-read : goal.returns-in-Err-clause-read
returns-in-Err-clause-read g c =
    let old = c.self.inside.bytes.items in
    let size = length c.as_slice-size.result.now in
    let written = c.read_behind.new.buffer in
    let front : take size written ≡ old = c.in-Err.ensures.kept
    ∙ ap (λ (l : List ℕ). take size l) (c.deref_mut.ensures.value ∙ c.in_ok-resize.ensures.items)
    ∙ front_kept old _ size 65536 (ap length c.as_slice-size.ensures.value) in
    let long : length written ≡ length c.deref_mut.result.now = c.read_behind.auto.buffer in
    let small : size ≤ length written =
    omega (arith, long, c.deref_mut.ensures.len, c.in_ok-resize.ensures.len) in
    let room : size ≤ c.resize.new.self.len = omega (arith, small, long, c.deref_mut.ensures.len) in
    HasRead-nothing c.args.self.now c.truncate-in-Err.new.self.items
    (g.S.Source.left c.args.link.now) (g.S.Source.left c.read_behind.new.link) old c.self.view_is
    (c.truncate-in-Err.ensures.items ∙ piece_dropped old written _ _ size front small room)
    c.in-Err.ensures.unread
