use Rattle.std.proofs.Common.{◌≡◌, ℕ, List, length, take, ◌-◌, ◌+◌, drop, sym, ap, ◌∙◌, arith}
use Rattle.std.proofs.lemmas.List.{take_rest}
use Rattle.std.specs.Char.{is_ascii_digit}
use Rattle.std.specs.List.{prefix_len}
use Rattle.qif_read.proofs.AmountLemmas.{commas_past, commas_end, misplaced, placed}
use Rattle.qif_read.proofs.amount.are_commas_placed.Goals.{else-byte-eq44-via-then-byte-eq44+else-digits_len-ne3}
use Rattle.qif_read.proofs.amount.are_commas_placed.Goals.{else-byte-eq44-via-else-byte-eq44}
use Rattle.qif_read.proofs.amount.are_commas_placed.Goals as goal

behind : (whole : List ℕ) (i count : ℕ) → count
    ≡ prefix_len is_ascii_digit (take (length whole - i) (drop i whole))
    → count ≡ prefix_len is_ascii_digit (drop i whole)
behind whole i count e = e ∙ ap (prefix_len is_ascii_digit) (take_rest whole i)

pub returns-then-digits_len-ne3 : goal.returns-then-digits_len-ne3
returns-then-digits_len-ne3 c =
    sym (c.loop-i.invariant ∙ misplaced c.args.whole.now c.loop-i.i (omega arith) (omega arith)
    (λ e. omega (arith, behind c.args.whole.now (c.loop-i.i + 1) c.digits_len.result c.digits_len.ensures.count)))

pub loop-i-preserved : goal.loop-i-preserved
loop-i-preserved c =
    elim c.else-byte-eq44.branch [
      | else-byte-eq44-via-then-byte-eq44+else-digits_len-ne3 w ↦ c.loop-i.invariant
          ∙ placed c.args.whole.now c.loop-i.i (omega arith) (omega arith)
          (omega (arith, behind c.args.whole.now (c.loop-i.i + 1) w.digits_len.result w.digits_len.ensures.count))
      | else-byte-eq44-via-else-byte-eq44 w ↦ c.loop-i.invariant
          ∙ commas_past c.args.whole.now c.loop-i.i (omega arith) (λ e. omega arith)
    ]

pub returns : goal.returns
returns c = sym (c.loop-i.invariant ∙ commas_end c.args.whole.now c.loop-i.i (omega arith))
