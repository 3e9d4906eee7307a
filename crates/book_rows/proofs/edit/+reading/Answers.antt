-- One part more is read, or an error comes for the next part.
use Rattle.std.proofs.Common.{◌≡◌, ℕ, ◌<◌, List, ◌∷◌, [], ◌++◌, length, flat_map, arith, sym, ap, ◌∙◌, subst}
use Rattle.std.proofs.Common.{length-append, get_or, ◌≤◌, Result, Ok, Err, IfOk}
use Rattle.book_rows.specs.declared.format.RowFormat.{RowFormat}
use Rattle.std.proofs.lemmas.Grind.{common_steps}
use Rattle.std.specs.List.{AllByRecursion}
use Rattle.book_codec.proofs.ItemLemmas.{AreLeft, left_one, left_more, left_none, read_on, fit_more}
use Rattle.book_undo.specs.declared.edit.Edit.{Edit}
use Rattle.book_undo.specs.declared.edit.Edit.{All}
use Rattle.book_rows.specs.EditBytes.{edit_bytes, IsEditWithin}
use Rattle.book_rows.proofs.EditLemmas.{begins, first_byte, list_spelled, list_within, made_edit, parts_at}
use Rattle.book_rows.proofs.edit.+reading.Goals as goal

pub read_parts-returns-in-Err-clause-again : goal.read_parts-returns-in-Err-clause-again
read_parts-returns-in-Err-clause-again t c parts tail fit long is =
    let short : length c.loop-place.parts < length parts = omega (arith, long) in
    left_one _ _ parts c.loop-place.parts _ tail _ short (c.loop-place.invariant.again parts tail fit long is)
    (λ y more f e. c.in-Err.ensures.again y more f e)

pub read_parts-returns-clause-again : goal.read_parts-returns-clause-again
read_parts-returns-clause-again t c parts tail fit long is =
    let all : length c.loop-place.parts ≡ length parts = omega (arith, long) in
    left_none (IsEditWithin c.args.format c.args.most) (edit_bytes c.args.format) parts c.loop-place.parts _ tail all
    (c.loop-place.invariant.again parts tail fit long is)

pub read_parts-loop-place-preserved : goal.read_parts-loop-place-preserved
read_parts-loop-place-preserved t c =
    let added = c.in-Ok-push.ensures.added in
    let first = c.loop-place.invariant.found in
    let next = c.in-Ok.ensures.found in
    let within = IsEditWithin c.args.format c.args.most in
    record {
      count = ap length added
          ∙ (let few = length-append c.loop-place.parts (c.in-Ok.found.0 ∷ []) in omega (arith, few));
      fits = subst (AllByRecursion within) (sym added)
          (fit_more within c.loop-place.parts c.in-Ok.found.0 c.loop-place.invariant.fits c.in-Ok.ensures.fits);
      found = first ∙ ap (λ b. flat_map (edit_bytes c.args.format) c.loop-place.parts ++ b) next
          ∙ read_on (edit_bytes c.args.format) c.loop-place.parts c.in-Ok.found.0 c.in-Ok.found.1.now
          ∙ ap (λ (l : List Edit). flat_map (edit_bytes c.args.format) l ++ c.in-Ok.found.1.now) (sym added);
      again = λ parts tail fit long is.
          let short : length c.loop-place.parts < length parts = omega (arith, long) in
          subst (λ (l : List Edit). AreLeft within (edit_bytes c.args.format) parts l c.in-Ok.found.1.now tail) (sym added)
          (left_more within (edit_bytes c.args.format) parts c.loop-place.parts c.in-Ok.found.0 _ c.in-Ok.found.1.now tail short
          (c.loop-place.invariant.again parts tail fit long is) (λ y more f e. c.in-Ok.ensures.again y more f e));
    }

pub read_list-returns-in_default-clause-again : goal.read_list-returns-in_default-clause-again
read_list-returns-in_default-clause-again t c edit rest fits e =
    let at = parts_at c.args.format c.args.most edit _ rest fits e in
    c.in_default.ensures at.deep

pub read_list-returns-in-Err-clause-again : goal.read_list-returns-in-Err-clause-again
read_list-returns-in-Err-clause-again t c edit rest fits e =
    let at = parts_at c.args.format c.args.most edit _ rest fits e in
    c.in-Err.ensures.again (length at.list.parts) (flat_map (edit_bytes c.args.format) at.list.parts ++ rest) at.few at.list.spelled

pub read_list-returns-in-Err-read_parts-clause-again : goal.read_list-returns-in-Err-read_parts-clause-again
read_list-returns-in-Err-read_parts-clause-again t c edit rest fits e =
    let at = parts_at c.args.format c.args.most edit _ rest fits e in
    let parts = at.list.parts in
    let same = c.in-Ok.ensures.again (length parts) (flat_map (edit_bytes c.args.format) parts ++ rest) at.few at.list.spelled in
    c.in-Err-read_parts.ensures.again parts rest (at.within c.in-Some.less (omega (arith, c.in-Some.ensures)))
    (sym (ap (λ (p : ℕ × List ℕ). p.0) same)) (ap (λ (p : ℕ × List ℕ). p.1) same)

pub read_list-returns-in-Ok-read_parts-clause-found : goal.read_list-returns-in-Ok-read_parts-clause-found
read_list-returns-in-Ok-read_parts-clause-found t c =
    let read = c.in-Ok-read_parts.ensures in
    list_spelled c.args.format c.in-Ok-read_parts.parts c.in-Ok.found.0 c.args.bytes.now c.in-Ok.found.1.now
    c.in-Ok-read_parts.rest.now c.in-Ok.ensures.found read.found read.count

pub read_list-returns-in-Ok-read_parts-clause-fits : goal.read_list-returns-in-Ok-read_parts-clause-fits
read_list-returns-in-Ok-read_parts-clause-fits t c =
    let read = c.in-Ok-read_parts.ensures in
    let count = c.in-Ok.ensures.fits in
    list_within c.args.format c.args.most c.in-Some.less c.in-Ok-read_parts.parts (omega (arith, c.in-Some.ensures))
    (omega (arith, read.count, count)) read.fits

pub read_list-returns-in-Ok-read_parts-clause-again : goal.read_list-returns-in-Ok-read_parts-clause-again
read_list-returns-in-Ok-read_parts-clause-again t c edit rest fits e =
    let at = parts_at c.args.format c.args.most edit _ rest fits e in
    let parts = at.list.parts in
    let same = c.in-Ok.ensures.again (length parts) (flat_map (edit_bytes c.args.format) parts ++ rest) at.few at.list.spelled in
    made_edit (λ (l : List Edit). All l) _ _ edit _ _ at.list.is
    (c.in-Ok-read_parts.ensures.again parts rest (at.within c.in-Some.less (omega (arith, c.in-Some.ensures)))
    (sym (ap (λ (p : ℕ × List ℕ). p.0) same)) (ap (λ (p : ℕ × List ℕ). p.1) same))

pub read_within-returns-in_default-clause-again : goal.read_within-returns-in_default-clause-again
read_within-returns-in_default-clause-again t c edit rest fits e =
    absurd (omega (arith, begins c.args.format edit rest, ap length e, c.in_default.len_below))

pub read_within-returns-in_default-first-clause-again : goal.read_within-returns-in_default-first-clause-again
read_within-returns-in_default-first-clause-again t c edit rest fits e =
    let first = subst (λ (b : List ℕ). get_or b 0 0 ≤ 3) (sym e) (first_byte c.args.format edit rest) in
    absurd (grind (arith, common_steps, first, c.in_default-first))

-- an edit without lists has a spelling at any depth
deeper :
    {X E : Type 0} (format : RowFormat) (most : ℕ) (of : X → Edit) (result : Result X E)
    → IfOk result (λ found. IsEditWithin format 0 (of found)) → IfOk result (λ found. IsEditWithin format most (of found))
deeper format most of (Ok found) fits = (fits.0, omega (arith, fits.1))
deeper format most of (Err error) fits = tt

pub read_within-returns-in-2-clause-fits : goal.read_within-returns-in-2-clause-fits
read_within-returns-in-2-clause-fits t c =
    deeper c.args.format c.args.most (λ found. found.0) c.read_gone.result (c.read_gone.ensures.fits c.args.format)

pub read_within-returns-in-3-clause-fits : goal.read_within-returns-in-3-clause-fits
read_within-returns-in-3-clause-fits t c =
    deeper c.args.format c.args.most (λ found. found.0) c.read_currency.result
    (c.read_currency.ensures.fits c.args.format)
