use Rattle.std.proofs.Common.{◌∙◌, ap, List, ℕ, drop}
use Rattle.bai2_read.specs.Fields.{after_fields, up_to_comma}
use Rattle.bai2_read.proofs.FieldLemmas.{from_customer, from_text}
use Rattle.bai2_read.proofs.details.last_parts.Goals as goal

pub returns-clause-customer : goal.returns-clause-customer
returns-clause-customer c =
    c.first_field-2.ensures
    ∙ ap up_to_comma (c.text_after-from_customer.ensures
    ∙ ap (λ (l : List ℕ). drop 1 (after_fields 0 l)) c.text_after-from_bank.ensures)
    ∙ from_customer c.args.body.now c.args.full c.requires

pub returns-clause-text : goal.returns-clause-text
returns-clause-text c =
    c.text_after-text.ensures
    ∙ ap (λ (l : List ℕ). drop 1 (after_fields 0 l))
    (c.text_after-from_customer.ensures ∙ ap (λ (l : List ℕ). drop 1 (after_fields 0 l)) c.text_after-from_bank.ensures)
    ∙ from_text c.args.body.now c.args.full c.requires
