use Rattle.std.proofs.Common.{Some, false, ap, ◌∙◌}
use Rattle.mt940_read.specs.Pages.{page_of, with_message}
use Rattle.mt940_read.proofs.StepLemmas.{end_whole, at_rest}
use Rattle.mt940_read.proofs.reader.Reader.end.Goals as goal

pub returns : goal.returns
returns c known =
    let self = c.args.self.now in
    let whole = end_whole known self c.if-is_none.ensures c.if-is_none-2.ensures in (
      whole.0,
      ap at_rest c.in_ok-keep.ensures
          ∙ (λ i. record {
            done = with_message self.page (c.replace-message.ensures.value i) self.done;
            page = Some (page_of (c.replace-message.ensures.value i));
            message = (c.replace-message.ensures.after ∙ c.new.ensures known) i;
            text_goes_on = false;
          })
          ∙ whole.1,
    )
