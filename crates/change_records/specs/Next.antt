-- Which of two lists has the next item. It serves to state what private functions keep.
use Rattle.std.specs.Prelude.{◌≡◌, true, Option, Some, None}
use Rattle.records.specs.declared.rec.ItemAt.{ItemAt}
use Rattle.change_records.specs.declared.changes.Next.{Next}
use Rattle.change_records.specs.declared.changes.Next.TheVariants.{Old, New, Both}
use Rattle.change_records.specs.Changes.{HaveOneKey, is_before}

-- which of two items comes first, where there are any
abbrev pub IsNext : Option ItemAt → Option ItemAt → Option Next → Type 0
IsNext old new None = (old ≡ None) × (new ≡ None)
IsNext old new (Some Old) = (one : ItemAt) × (old ≡ Some one) × ((other : ItemAt) → new ≡ Some other → is_before one other ≡ true)
IsNext old new (Some New) = (one : ItemAt) × (new ≡ Some one) × ((other : ItemAt) → old ≡ Some other → is_before one other ≡ true)
IsNext old new (Some Both) = (one : ItemAt) × (other : ItemAt) × (old ≡ Some one) × (new ≡ Some other) × HaveOneKey one other
