-- The order of spans: by the first byte, the sectors, and the sort with its fields as written.
use Rattle.std.specs.Prelude.{ℕ, Bool}
use Rattle.std.specs.Ordering.{nat_cmp, bool_cmp, ordering_then, on, is_eq, is_lt}
use Rattle.std.specs.declared.cmp.Ordering.{Ordering}
use Rattle.std.specs.declared.cmp.Ordering.TheVariants.{Less, Equal, Greater}
use Rattle.span_index.specs.declared.span.SortName.{SortName}
use Rattle.span_index.specs.declared.span.SortName.TheVariants.{Owned as OwnedName, Summed as SummedName, Shown as ShownName}
use Rattle.span_index.specs.declared.span.Span.{Span}
use Rattle.span_index.specs.declared.span.SpanSort.{SpanSort}
use Rattle.span_index.specs.declared.span.SpanSort.TheVariants.{Owned, Summed, Shown}

-- the number of a sort in their order
abbrev pub rank : SortName → ℕ
rank OwnedName = 0
rank SummedName = 1
rank ShownName = 2

-- how a sort stands to another
abbrev pub name_cmp : SortName → SortName → Ordering
name_cmp = on rank nat_cmp

-- the name of what a span is of
abbrev pub name_of : SpanSort → SortName
name_of (Owned of_data) = OwnedName
name_of Summed = SummedName
name_of (Shown tree ino file_offset extent length) = ShownName

-- how what a span is of stands to what another is of
abbrev pub sort_cmp : SpanSort → SpanSort → Ordering
sort_cmp (Owned d) (Owned d') = bool_cmp d d'
sort_cmp (Owned d) Summed = Less
sort_cmp (Owned d) (Shown t' i' o' e' l') = Less
sort_cmp Summed (Owned d') = Greater
sort_cmp Summed Summed = Equal
sort_cmp Summed (Shown t' i' o' e' l') = Less
sort_cmp (Shown t i o e l) (Owned d') = Greater
sort_cmp (Shown t i o e l) Summed = Greater
sort_cmp (Shown t i o e l) (Shown t' i' o' e' l') =
    ordering_then (nat_cmp t t')
    (ordering_then (nat_cmp i i') (ordering_then (nat_cmp o o') (ordering_then (nat_cmp e e') (nat_cmp l l'))))

-- how a span stands to another
abbrev pub span_cmp : Span → Span → Ordering
span_cmp x y = ordering_then (nat_cmp x.first y.first) (ordering_then (nat_cmp x.sectors y.sectors) (sort_cmp x.sort y.sort))

-- whether two spans are one
unfoldable pub is_same : Span → Span → Bool
is_same x y = is_eq (span_cmp x y)

-- whether a span is below another
unfoldable pub is_below : Span → Span → Bool
is_below x y = is_lt (span_cmp x y)
