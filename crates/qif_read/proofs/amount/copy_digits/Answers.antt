use Rattle.std.proofs.Common.{◌++◌, take, sym, ap, ◌∙◌, arith}
use Rattle.std.proofs.lemmas.List.{append-nil}
use Rattle.qif_read.proofs.AmountLemmas.{comma_passed, digit_copied, too_many, nothing_left}
use Rattle.qif_read.proofs.amount.copy_digits.Goals.{then-byte-ne44+else-count-buffer, else-byte-ne44}
use Rattle.qif_read.proofs.amount.copy_digits.Goals as goal

pub returns-then-count-buffer : goal.returns-then-count-buffer
returns-then-count-buffer c =
    let more = too_many c.args.whole.now c.loop-byte.buffer c.loop-byte.byte-index c.loop-byte.count (omega arith)
    (omega arith) (λ e. omega arith) c.loop-byte.invariant.copied in
    omega (arith, more)

pub loop-byte-preserved : goal.loop-byte-preserved
loop-byte-preserved c =
    elim c.if-byte-ne44.branch [
      | then-byte-ne44+else-count-buffer w ↦ record {
        copied = rw (w.buffer-is, w.count-is)
            (digit_copied c.args.whole.now c.loop-byte.buffer c.loop-byte.byte-index c.loop-byte.count
            (omega arith) (omega arith) (λ e. omega arith) c.loop-byte.invariant.copied);
        within = omega arith;
      }
      | else-byte-ne44 w ↦ record {
        copied = rw (
          w.buffer-is,
          w.count-is,
          ← comma_passed c.args.whole.now c.loop-byte.byte-index (omega arith)
              (omega arith),
        ) c.loop-byte.invariant.copied;
        within = omega arith;
      }
    ]

pub returns : goal.returns
returns c = (
  c.loop-byte.invariant.within,
  sym (append-nil (take c.loop-byte.count c.loop-byte.buffer))
      ∙ ap (λ l. take c.loop-byte.count c.loop-byte.buffer ++ l)
      (sym (nothing_left c.args.whole.now c.loop-byte.byte-index (omega arith))) ∙ c.loop-byte.invariant.copied,
)
