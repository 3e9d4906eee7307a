use Rattle.std.proofs.Common.{◌≡◌, ◌^◌, ◌∙◌, ap, length, take, min, arith}
use Rattle.std.proofs.lemmas.List.{take_min}
use Rattle.book_http.specs.Exchange.{head_window}
use Rattle.book_http.proofs.head.window_of.Goals as goal

pub returns : goal.returns
unfolding head_window
returns c =
    let bytes = c.args.bytes.now in
    let count : c.min.result ≡ min (2 ^ 14) (length bytes) = omega arith in
    ap (λ n. take n bytes) count ∙ take_min (2 ^ 14) bytes
