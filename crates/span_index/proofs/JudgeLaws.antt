-- One walk over each sort of spans, side by side.
use Rattle.std.proofs.Common.{◌≡◌, ℕ, ◌+◌, ◌<◌, ◌≤◌, ◌%◌, Bool, true, false, not, cond, ◌&&◌, List, refl, sym, ap, ◌∙◌, subst, arith}
use Rattle.std.specs.Prelude.{◌==◌, Option, Some, None, min, nat_le, nat_lt}
use Rattle.std.specs.List.{count_by, sum_by}
use Rattle.std.proofs.lemmas.Bool.Decides.{nat_tests}
use Rattle.accounts.specs.Broken.{is_broken}
use Rattle.accounts.specs.Context.{Context}
use Rattle.accounts.specs.Kinds.{sector, sector_keeps}
use Rattle.span_index.specs.declared.cursor.Head.{Head}
use Rattle.span_index.specs.declared.cursor.Head.TheVariants.{Start, At, End}
use Rattle.span_index.specs.declared.cursor.Walk.{Walk}
use Rattle.span_index.specs.declared.judge.Walks.{Walks}
use Rattle.span_index.specs.declared.span.Run.{Run}
use Rattle.span_index.specs.declared.span.Span.{Span}
use Rattle.span_index.specs.declared.span.SpanSort.{SpanSort}
use Rattle.span_index.specs.declared.span.SpanSort.TheVariants.{Owned as OwnedSpan, Summed as SummedSpan, Shown as ShownSpan}
use Rattle.span_index.specs.declared.span.SortName.{SortName}
use Rattle.span_index.specs.declared.span.SortName.TheVariants.{Owned, Summed, Shown}
use Rattle.span_index.specs.Judging.{AreBeginning, AreBegun, AreCovered, ArePassing, ArePast, AreReached, AreStill, AreWalked, passed, worth}
use Rattle.span_index.specs.Reach.{reaching}
use Rattle.span_index.specs.Sectors.{adds, is_bad, meets, sector_sum}
use Rattle.span_index.specs.Spans.{Table, end_of, is_sort}
use Rattle.span_index.specs.Sweep.{is_passed, is_reaching, passed_sum}
use Rattle.span_index.specs.Walks.{IsBeginning, IsBeyond, IsPassing, IsWalked, due, is_field}
use Rattle.span_index.proofs.SectorLaws.{capped_keeps, reach_is}
use Rattle.span_index.proofs.SumLaws.{sum_both, sum_le, sum_none}
use Rattle.verdict.proofs.Truth.{and_left, and_right, and_true}

-- ---- before all spans

pub none_passed : (value : Span → ℕ) (spans : List Span) → passed_sum value Start spans ≡ 0
unfolding passed_sum
none_passed value spans = sum_none spans

none_reach : (later : ℕ) → reaching (record { far = 0; near = 0 }) later ≡ 0
none_reach later = let no : nat_lt later 0 ≡ false = grind (arith, nat_tests) in ap (λ b. cond b 1 0 + cond b 1 0) no

none_by : (b : Bool) (later : ℕ) → reaching (cond b (record { far = 0; near = 0 }) (record { far = 0; near = 0 })) later ≡ 0
none_by true later = none_reach later
none_by false later = none_reach later

pub start_walked : (context : Context) (t : Table) (xs : List Span) (sort : SortName)
    → IsWalked context t xs 0 0 (record { sort = sort; head = Start; all = record { far = 0; near = 0 }; of_data = record { far = 0; near = 0 } })
start_walked context t xs sort = record {
  order = omega arith;
  data_order = omega arith;
  head = tt;
  sums = λ field later of_sort at_sector high.
      none_by (field == 1) later ∙ sym (ap (λ n. min n 2) (none_passed (adds context later field) xs));
}

pub none_all : (runs : List Run) (w : Walks) (xs : List Span)
    → ((value : Span → ℕ) (spans : List Span) → passed_sum value w.owned.head spans ≡ 0)
    → ((value : Span → ℕ) (spans : List Span) → passed_sum value w.summed.head spans ≡ 0)
    → ((value : Span → ℕ) (spans : List Span) → passed_sum value w.shown.head spans ≡ 0)
    → passed runs w xs ≡ 0
unfolding passed
none_all runs w xs a b c =
    let x = a (worth runs Owned) xs in
    let y = b (worth runs Summed) xs in
    let z = c (worth runs Shown) xs in
    omega (arith, x, y, z)

-- ---- the walks go on

later_walk : (context : Context) (t : Table) (xs : List Span) (low address later : ℕ) (walk : Walk)
    → address ≤ later → IsWalked context t xs low address walk → IsWalked context t xs low later walk
later_walk context t xs low address later walk up was = record {
  order = was.order;
  data_order = was.data_order;
  head = was.head;
  sums = λ field at of_sort at_sector high. was.sums field at of_sort at_sector (omega arith);
}

pub later_walks : (context : Context) (t : Table) (xs : List Span) (low address later : ℕ) (w : Walks)
    → address ≤ later → AreWalked context t xs low address w → AreWalked context t xs low later w
later_walks context t xs low address later w up was = record {
  owned = later_walk context t xs low address later w.owned up was.owned;
  summed = later_walk context t xs low address later w.summed up was.summed;
  shown = later_walk context t xs low address later w.shown up was.shown;
  owned_sort = was.owned_sort;
  summed_sort = was.summed_sort;
  shown_sort = was.shown_sort;
}

-- what one span is worth that a walk over a sort passes between two addresses
worth_one : (runs : List Run) (low until address : ℕ) (n sort : SortName) → n ≡ sort → address < until → AreCovered runs low until
    → (span : Span) → is_reaching n low span ≡ true → span.first ≤ address → 1 ≤ worth runs sort span
unfolding is_reaching worth
worth_one runs low until address n sort is under covered span r first =
    let of : is_sort sort span.sort ≡ true = subst (λ m. is_sort m span.sort ≡ true) is (and_left _ _ r) in
    let some : nat_lt 0 span.sectors ≡ true = and_left _ _ (and_right (is_sort n span.sort) _ r) in
    let ends : nat_lt low (end_of span) ≡ true = and_right (nat_lt 0 span.sectors) _ (and_right (is_sort n span.sort) _ r) in
    let before : span.first < until = omega arith in
    let begins : nat_lt span.first until ≡ true = grind (arith, nat_tests) in
    let one : cond {A = ℕ} (is_sort sort span.sort && meets runs span) 1 0 ≡ 1 = ap (λ b. cond b 1 0)
    (and_true _ _ of (covered span some ends begins)) in
    omega (arith, one)

module _ (context : Context) (t : Table) (xs : List Span) (low address : ℕ) (old new : Walks) (before mid next after : ℕ) (from : ℕ)
    (was : AreWalked context t xs low from old) where
  pub all_begin : IsBeginning context t xs address old.owned new.owned before mid → IsBeginning context t xs address old.summed new.summed mid next
      → IsBeginning context t xs address old.shown new.shown next after → AreBeginning context t xs address old new before after
  unfolding passed
  all_begin a b c = record {
    walked = record {
      owned = a.walked;
      summed = b.walked;
      shown = c.walked;
      owned_sort = a.sort ∙ was.owned_sort;
      summed_sort = b.sort ∙ was.summed_sort;
      shown_sort = c.sort ∙ was.shown_sort;
    };
    begun = record { owned = a.begun; summed = b.begun; shown = c.begun };
    looks = λ each runs.
        let x = a.looks each (worth runs Owned) in
        let y = b.looks each (worth runs Summed) in
        let z = c.looks each (worth runs Shown) in
        omega (arith, x, y, z);
  }

  pub all_pass : IsPassing context t xs low address old.owned new.owned before mid → IsPassing context t xs low address old.summed new.summed mid next
      → IsPassing context t xs low address old.shown new.shown next after → ArePast address new
      → ArePassing context t xs low address old new before after
  unfolding passed
  all_pass a b c past = record {
    walked = record {
      owned = a.walked;
      summed = b.walked;
      shown = c.walked;
      owned_sort = a.sort ∙ was.owned_sort;
      summed_sort = b.sort ∙ was.summed_sort;
      shown_sort = c.sort ∙ was.shown_sort;
    };
    begun = record { owned = a.begun; summed = b.begun; shown = c.begun };
    past = past;
    looks = λ each has runs until under covered.
        let x = a.looks each has (worth runs Owned) (worth_one runs low until address old.owned.sort Owned was.owned_sort under covered) in
        let y = b.looks each has (worth runs Summed) (worth_one runs low until address old.summed.sort Summed was.summed_sort under covered) in
        let z = c.looks each has (worth runs Shown) (worth_one runs low until address old.shown.sort Shown was.shown_sort under covered) in
        omega (arith, x, y, z);
  }

-- ---- each span that meets a run is passed once at most

worth_sort : (sort : SpanSort) (m : Bool)
    → cond (is_sort Owned sort && m) 1 0 + (cond (is_sort Summed sort && m) 1 0 + cond (is_sort Shown sort && m) 1 0) ≤ cond m 1 0
worth_sort (OwnedSpan d) true = omega arith
worth_sort (OwnedSpan d) false = omega arith
worth_sort SummedSpan true = omega arith
worth_sort SummedSpan false = omega arith
worth_sort (ShownSpan t i o x l) true = omega arith
worth_sort (ShownSpan t i o x l) false = omega arith

at_most : (b : Bool) (n : ℕ) → cond b n 0 ≤ n
at_most true n = omega arith
at_most false n = omega arith

sum_most : (value : Span → ℕ) (head : Head) (xs : List Span) → passed_sum value head xs ≤ sum_by value xs
unfolding passed_sum
sum_most value head xs = sum_le (λ x. cond (is_passed head x) (value x) 0) value xs (λ x. at_most (is_passed head x) (value x))

worth_all : (runs : List Run) (x : Span) → worth runs Owned x + (worth runs Summed x + worth runs Shown x) ≤ cond (meets runs x) 1 0
unfolding worth
worth_all runs x = worth_sort x.sort (meets runs x)

pub passed_most : (runs : List Run) (w : Walks) (xs : List Span) → passed runs w xs ≤ count_by (meets runs) xs
unfolding passed
passed_most runs w xs =
    let a = sum_most (worth runs Owned) w.owned.head xs in
    let b = sum_most (worth runs Summed) w.summed.head xs in
    let c = sum_most (worth runs Shown) w.shown.head xs in
    let d = sum_both (worth runs Summed) (worth runs Shown) xs in
    let e = sum_both (worth runs Owned) (λ x. worth runs Summed x + worth runs Shown x) xs in
    let f = sum_le (λ x. worth runs Owned x + (worth runs Summed x + worth runs Shown x)) (λ x. cond (meets runs x) 1 0) xs (worth_all runs) in
    omega (arith, a, b, c, d, e, f)

-- ---- the account of a sector

pub broken_is : (address : ℕ) (w : Walks) (sums totals : ℕ → ℕ) (keeps : Bool) → AreReached address w sums
    → totals 0 ≡ reaching w.owned.all address → totals 1 ≡ reaching w.owned.of_data address
    → totals 2 ≡ reaching w.summed.all address → totals 3 ≡ reaching w.shown.all address
    → keeps ≡ sector_keeps totals → not keeps ≡ is_broken (sector address) sums
unfolding is_broken
broken_is address w sums totals keeps reached a b c d is =
    ap not (is ∙ capped_keeps sums totals (a ∙ reached.owned) (b ∙ reached.of_data) (c ∙ reached.summed) (d ∙ reached.shown))

past_head : (address : ℕ) (head : Head) → due address head ≡ None → IsBeyond (address + 1) head
past_head address Start e = tt
past_head address (At s n) e =
    elim (nat_le s.first address) as (λ b. nat_le s.first address ≡ b
    → cond {A = Option (Span × ℕ)} b (Some (s, n)) None ≡ None → address + 1 ≤ s.first) [
      | true ↦ λ is no. absurd (cc)
      | false ↦ λ is no. let up : address < s.first = grind (arith, nat_tests) in omega arith
    ] refl e
past_head address End e = tt

-- where a walk over the spans stands past an address, its sector is still as at itself
pub still_here : (address : ℕ) (w : Walks) → ArePast address w → AreStill address address w
still_here address w past = record {
  beyond = record {
    owned = past_head address w.owned.head past.owned;
    summed = past_head address w.summed.head past.summed;
    shown = past_head address w.shown.head past.shown;
  };
  owned = refl;
  of_data = refl;
  summed = refl;
  shown = refl;
}

module _ (context : Context) (t : Table) (xs : List Span) (low address later : ℕ) (w : Walks) (walked : AreWalked context t xs low address w)
    (begun : AreBegun w)
    (still : AreStill address later w) (at_sector : later % 4096 ≡ 0) (up : address ≤ later) where
  reached : AreReached address w (sector_sum context xs later)
  reached =
      let under : later < later + 1 = omega arith in
      record {
        owned = sym still.owned
            ∙ reach_is context t xs low address (later + 1) later 0 w.owned walked.owned begun.owned still.beyond.owned
            (subst (λ n. is_field n 0 ≡ true) (sym walked.owned_sort) refl) at_sector up under;
        of_data = sym still.of_data
            ∙ reach_is context t xs low address (later + 1) later 1 w.owned walked.owned begun.owned still.beyond.owned
            (subst (λ n. is_field n 1 ≡ true) (sym walked.owned_sort) refl) at_sector up under;
        summed = sym still.summed
            ∙ reach_is context t xs low address (later + 1) later 2 w.summed walked.summed begun.summed still.beyond.summed
            (subst (λ n. is_field n 2 ≡ true) (sym walked.summed_sort) refl) at_sector up under;
        shown = sym still.shown
            ∙ reach_is context t xs low address (later + 1) later 3 w.shown walked.shown begun.shown still.beyond.shown
            (subst (λ n. is_field n 3 ≡ true) (sym walked.shown_sort) refl) at_sector up under;
      }

  -- what the sums say of a sector where they are still says it of each later one
  pub bad_is : (broken : Bool) → ((sums : ℕ → ℕ) → AreReached address w sums → broken ≡ is_broken (sector address) sums)
      → is_bad context xs later ≡ broken
  unfolding is_bad is_broken
  bad_is broken is = sym (is (sector_sum context xs later) reached)
