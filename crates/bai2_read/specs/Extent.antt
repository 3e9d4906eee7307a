-- The reader's own: how many fields it has found in a detail, and how many a detail has up to its customer reference.
use Rattle.std.specs.Prelude.{ℕ, ◌≡◌, ◌≤◌, true, List, Option, MatchOption, ⊤}
use Rattle.bai2_read.specs.Details.{full_count}
use Rattle.bai2_read.specs.Fields.{field_count}
use Rattle.bai2_read.specs.Kinds.{is_detail}
use Rattle.bai2_read.specs.declared.extent.Extent.{Extent}
use Rattle.bai2_read.specs.declared.kind.Kind.{Kind}

-- The first four fields of a detail say how many it has up to its customer reference.
abbrev pub HasExtent : Kind → List ℕ → ℕ → ℕ → Type 0
HasExtent kind body fields full =
    is_detail kind ≡ true → (fields ≡ field_count body) × (4 ≤ fields → full ≡ full_count body)

-- The reader counts them once a continuation comes; until then it keeps nothing.
abbrev pub MayHaveExtent : Kind → List ℕ → Option Extent → Type 0
MayHaveExtent kind body kept = MatchOption kept ⊤ (λ extent. HasExtent kind body extent.fields extent.full)
