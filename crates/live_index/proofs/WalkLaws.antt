-- A walk in the order of first keys: each pair that it has left stands in the table.
use Rattle.std.proofs.Common.{◌≡◌, ℕ, Bool, true, false, cond, List, sym, ◌∙◌}
use Rattle.std.specs.Prelude.{Option, Some, None}
use Rattle.std.specs.List.{All}
use Rattle.std.specs.Map.Iter.{TakesFirst}
use Rattle.std.specs.declared.ops.Bound.TheVariants.{Excluded, Unbounded}
use Rattle.std.specs.BTreeMap.Range.{IsRangeOf}
use Rattle.std.proofs.lemmas.List.Elements.{All-rest, All-same}
use Rattle.verdict.specs.declared.key.Key.{Key}
use Rattle.live_index.specs.declared.live.Live.{Live}
use Rattle.live_index.specs.declared.orders.Orders.{Orders}
use Rattle.live_index.specs.declared.places.ByFirst.{ByFirst}
use Rattle.live_index.specs.Orders.{AreAlike, by_first, first_at, with_first}
use Rattle.live_index.specs.Pairs.{Pairs, Stands, has_first}
use Rattle.live_index.proofs.AlikeLaws.{one_place}

some_only : (b : Bool) (y live : Live) → cond b (Some y) None ≡ Some live → Some y ≡ Some live
some_only = elim [ true ↦ λ y live e. e | false ↦ λ y live e. cc ]

there_if : (level : ℕ) (key : Key) (y : Option Live) (live : Live) → with_first level key y ≡ Some live → y ≡ Some live
there_if level key None live e = e
there_if level key (Some y) live e = some_only (has_first level key (Some y)) y live e

-- what the order by first key has at a place stands in the table
first_stands : (p : Pairs) (o : Orders) (place : ByFirst) (live : Live) → AreAlike p o → first_at o place ≡ Some live → Stands p live
first_stands p o place live alike is =
    let there : p place.tree place.address ≡ Some live = there_if place.level place.first (p place.tree place.address) live (sym (alike.keys place) ∙ is) in
    let own : (live.tree ≡ place.tree) × (live.address ≡ place.address) = alike.own place.tree place.address live there in
    one_place p live.tree live.address place.tree place.address own.0 own.1 ∙ there

pub range_stands : (p : Pairs) (o : Orders) (from : ByFirst) (r : List (ByFirst × Live)) → AreAlike p o → IsRangeOf by_first (Excluded from) Unbounded o.by_first r → All (λ one. Stands p one.1) r
unfolding first_at
range_stands p o from r alike range k d h = first_stands p o _ _ alike (range.0 k d h).1

-- what holds of all that is left holds of all that is left after a step
pub all_left : {A X : Type 0} (P : X → Type 0) (shows : A → X) (s : List X) (r : Option A) (t : List X) → TakesFirst shows s r t → All P s → All P t
all_left P shows s None t steps all = All-same P t s (steps.1 ∙ sym steps.0) all
all_left P shows s (Some x) t steps all = All-rest P (shows x) t s steps all
