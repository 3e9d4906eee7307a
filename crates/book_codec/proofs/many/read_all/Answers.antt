-- One item more is read, or an error comes for the next item.
use Rattle.std.proofs.Common.{◌≡◌, List, ◌∷◌, [], ◌++◌, ◌<◌, length, arith, sym, ap, ◌∙◌, subst}
use Rattle.std.proofs.Common.{length-append}
use Rattle.std.specs.List.{flat_map, AllByRecursion}
use Rattle.book_codec.proofs.ItemLemmas.{AreLeft, left_one, left_more, left_none, read_on, fit_more}
use Rattle.book_codec.proofs.many.read_all.Goals as goal

pub returns-in-Err-clause-again : goal.returns-in-Err-clause-again
returns-in-Err-clause-again g c items tail fit long is =
    let short : length c.loop-place.items < length items = omega (arith, long) in
    left_one _ _ items c.loop-place.items _ tail _ short (c.loop-place.invariant.again items tail fit long is)
    (λ y more f e. c.in-Err.ensures.again y more f e)

pub returns-clause-again : goal.returns-clause-again
returns-clause-again g c items tail fit long is =
    let all : length c.loop-place.items ≡ length items = omega (arith, long) in
    left_none g.T.Field.fits g.T.Field.spelling items c.loop-place.items _ tail all
    (c.loop-place.invariant.again items tail fit long is)

pub loop-place-preserved : goal.loop-place-preserved
loop-place-preserved g c =
    let added = c.in-Ok-push.ensures.added in
    let first = c.loop-place.invariant.found in
    let next = c.in-Ok.ensures.found in
    let sp = g.T.Field.spelling in
    record {
      count = ap length added
          ∙ (let few = length-append c.loop-place.items (c.in-Ok.found.0 ∷ []) in omega (arith, few));
      fits = subst (AllByRecursion g.T.Field.fits) (sym added)
          (fit_more g.T.Field.fits c.loop-place.items c.in-Ok.found.0 c.loop-place.invariant.fits c.in-Ok.ensures.fits);
      found = first ∙ ap (λ b. flat_map sp c.loop-place.items ++ b) next
          ∙ read_on sp c.loop-place.items c.in-Ok.found.0 c.in-Ok.found.1.now
          ∙ ap (λ (l : List g.row.T.Denot). flat_map sp l ++ c.in-Ok.found.1.now) (sym added);
      again = λ items tail fit long is.
          let short : length c.loop-place.items < length items = omega (arith, long) in
          subst (λ (l : List g.row.T.Denot). AreLeft g.T.Field.fits sp items l c.in-Ok.found.1.now tail) (sym added)
          (left_more g.T.Field.fits sp items c.loop-place.items c.in-Ok.found.0 _ c.in-Ok.found.1.now tail short
          (c.loop-place.invariant.again items tail fit long is) (λ y more f e. c.in-Ok.ensures.again y more f e));
    }
