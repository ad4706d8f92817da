-- All spans of items that post otherwise are found.
use Rattle.std.proofs.Common.{◌≡◌, ℕ, ◌+◌, ◌*◌, ◌^◌, ◌<◌, ◌≤◌, Bool, true, false, not, ◌&&◌, ◌⊎◌, inl, inr, List, length, refl, sym, ap, ◌∙◌, subst, arith, nat_le, eqb}
use Rattle.std.specs.Prelude.{IsSome, IsTrue, Option, Some, None, is_none, is_some, option_map}
use Rattle.std.specs.Option.{unwrap_or}
use Rattle.std.specs.BTreeMap as map
use Rattle.std.specs.BTreeSet as set
use Rattle.std.specs.List.{Contains}
use Rattle.std.proofs.lemmas.Bool.{and_from, and_parts, both_ways, eq-eqb, false_from_ne_true, leb-true, or_left, or_right, true_from_ne_false}
use Rattle.std.proofs.lemmas.Option.{slice_get-get_or}
use Rattle.verdict.specs.Chunks.{holds_range, home}
use Rattle.verdict.specs.declared.place.Chunk.{Chunk}
use Rattle.accounts.specs.Context.{home_in}
use Rattle.live_index.specs.Pairs.{Pairs}
use Rattle.span_index.specs.Spans.{Table, is_sort, shows_behind}
use Rattle.span_index.specs.declared.span.Span.{Span}
use Rattle.span_index.specs.declared.span.SpanSort.{SpanSort}
use Rattle.span_index.specs.declared.span.SpanSort.TheVariants.{Owned, Summed, Shown}
use Rattle.span_index.specs.declared.span.SortName.TheVariants.{Owned as OwnedName, Shown as ShownName}
use Rattle.change_records.specs.declared.item_ref.ItemRef.{ItemRef}
use Rattle.change_records.specs.declared.kept.Made.{Made}
use Rattle.change_records.specs.Homes.{StandApart, is_kept}
use Rattle.change_records.specs.Passes.{is_changed, is_searched}
use Rattle.change_records.specs.Listed.{inode_cmp}
use Rattle.change_records.specs.Made.{flag_by}
use Rattle.change_records.specs.Refs.{ref_cmp}
use Rattle.change_records.specs.Search.{AreLawful, IsFound, IsHit, IsLawfulSort, IsShownBy, MeetsChanged, MeetsChunk, Searched, ShowsChanged, SortDiffers, known, new_flags}
use Rattle.change_records.proofs.HomeLaws.{homes_kept, homes_none}

-- what is searched, and what it finds
record IsSearched (olds news : List Chunk) (n : ℕ) (free : ℕ → ℕ → Bool) (pairs : Pairs) (made : Made) (table : Table) (apart : Bool) (start one two three : set.BTreeSet ItemRef) : Type 0 where
  pub lawful : AreLawful n table
  pub stand : IsTrue apart → StandApart news
  pub first : Searched (known olds n free pairs news made) table (MeetsChanged olds (is_searched news apart false) (length olds)) start one
  pub second : Searched (known olds n free pairs news made) table (MeetsChanged news (is_searched olds apart true) (length news)) one two
  pub third : Searched (known olds n free pairs news made) table (ShowsChanged made.inodes.items free (new_flags made free) (length made.inodes.items)) two three

flag_some : (made : Made) (t i : ℕ) (f : Bool) → (flag_by made t i f ≡ f → ⊥) → IsSome (map.get inode_cmp made.flags (record { tree = t; ino = i }))
unfolding flag_by
flag_some made t i f other = by (map.get inode_cmp made.flags (record { tree = t; ino = i })) refl
  where
    by : (o : Option Bool) → map.get inode_cmp made.flags (record { tree = t; ino = i }) ≡ o → IsSome (map.get inode_cmp made.flags (record { tree = t; ino = i }))
    by None e = absurd (other (ap (λ o. unwrap_or o f) e))
    by (Some b) e = ap is_some e

-- a range in a chunk meets it
meets_in : (c : Chunk) (span : Span) (a m : ℕ) → (is_sort OwnedName span.sort ≡ true) ⊎ (is_sort ShownName span.sort ≡ true) → holds_range c a m ≡ true → a ≤ span.first
    → span.first + span.sectors * 4096 ≤ a + m → 0 < span.sectors → a + m < 2 ^ 64 → MeetsChunk c span
meets_in c span a m sort holds low high some fits =
    let both = and_parts (nat_le c.start a) (nat_le (a + m) (c.start + c.length)) holds in
    let from : c.start ≤ a = leb-true _ _ both.0 in
    let until : a + m ≤ c.start + c.length = leb-true _ _ both.1 in
    record { sort = sort; ends = omega (arith, from, low, some); begins = omega (arith, until, high, some, fits) }

-- which chunks are searched
searched_gone : (others : List Chunk) (c : Chunk) (apart : Bool) → (is_kept others c ≡ true → ⊥) → is_searched others apart false c ≡ true
unfolding is_searched
searched_gone others c apart gone = or_right (not apart) (not (is_kept others c)) (ap not (false_from_ne_true _ gone))

searched_come : (others : List Chunk) (c : Chunk) (apart : Bool) → home others c.start c.length ≡ None → is_searched others apart true c ≡ true
unfolding is_searched
searched_come others c apart none = or_right (not apart) (is_none (home others c.start c.length)) (ap is_none none)

searched_all : (others : List Chunk) (c : Chunk) (apart is_new : Bool) → apart ≡ false → is_searched others apart is_new c ≡ true
unfolding is_searched
searched_all others c apart is_new e = or_left (not apart) (is_changed others is_new c) (ap not e)

module _ (olds news : List Chunk) (n : ℕ) (free : ℕ → ℕ → Bool) (pairs : Pairs) (made : Made) (table : Table) (apart : Bool) (start one two three : set.BTreeSet ItemRef)
    (all : IsSearched olds news n free pairs made table apart start one two three) (span : Span) (at : ItemRef) (stands : 0 < table span)
    (hit : IsHit (known olds n free pairs news made) span at) (missing : set.contains ref_cmp three at ≡ false) where
  missed_old : (c : Chunk) → Contains olds c → is_searched news apart false c ≡ true → MeetsChunk c span → ⊥
  missed_old c among gone meets =
      both_ways _ missing (all.third.stay at (all.second.stay at (all.first.all span at stands
      (record { chunk = c; at = among.0; small = among.1; among = slice_get-get_or olds among.0 c among.1 ∙ ap Some among.2; gone = gone; meets = meets }) hit)))

  missed_new : (c : Chunk) → Contains news c → is_searched olds apart true c ≡ true → MeetsChunk c span → ⊥
  missed_new c among gone meets =
      both_ways _ missing (all.third.stay at (all.second.all span at stands
      (record { chunk = c; at = among.0; small = among.1; among = slice_get-get_or news among.0 c among.1 ∙ ap Some among.2; gone = gone; meets = meets }) hit))

  missed_flag : (t i : ℕ) → IsShownBy t i span → (new_flags made free t i ≡ free t i → ⊥) → ⊥
  missed_flag t i shown other =
      made.listed (record { tree = t; ino = i }) (flag_some made t i (free t i) other) (λ among.
      both_ways _ missing (all.third.all span at stands
      (record { inode = record { tree = t; ino = i }; at = among.0; small = among.1; among = slice_get-get_or made.inodes.items among.0 (record { tree = t; ino = i }) among.1 ∙ ap Some among.2; other = other; shown = shown })
      hit))

  homes_missed : (a m : ℕ) → (is_sort OwnedName span.sort ≡ true) ⊎ (is_sort ShownName span.sort ≡ true) → a ≤ span.first → span.first + span.sectors * 4096 ≤ a + m
      → 0 < span.sectors → a + m < 2 ^ 64 → (option_map home_in (home olds a m) ≡ option_map home_in (home news a m) → ⊥) → ⊥
  homes_missed a m sort low high some fits differ = by apart refl
    where
      by : (b : Bool) → apart ≡ b → ⊥
      by true e =
          homes_kept olds news a m (all.stand e) (omega (arith, low, high, some))
          (λ c holder gone. missed_old c holder.among (searched_gone news c apart gone) (meets_in c span a m sort holder.holds low high some fits))
          (λ c holder come. missed_new c holder.among (searched_come olds c apart come) (meets_in c span a m sort holder.holds low high some fits))
          differ
      by false e =
          homes_none olds news a m
          (λ c holder. missed_old c holder.among (searched_all news c apart false e) (meets_in c span a m sort holder.holds low high some fits))
          (λ c holder. missed_new c holder.among (searched_all olds c apart true e) (meets_in c span a m sort holder.holds low high some fits))
          differ

  eq_cases : (a b : Bool) → (a ≡ b) ⊎ (a ≡ b → ⊥)
  eq_cases true true = inl refl
  eq_cases true false = inr (λ e. absurd (cc))
  eq_cases false true = inr (λ e. absurd (cc))
  eq_cases false false = inl refl

  eqb_refl : (a : ℕ) → eqb a a ≡ true
  eqb_refl a = eq-eqb a a refl

  missed : (sort : SpanSort) → span.sort ≡ sort → IsLawfulSort n span.first span.sectors sort
      → SortDiffers (known olds n free pairs news made).before (known olds n free pairs news made).after span.first span.sectors sort → ⊥
  missed (Owned d) e lawful differs =
      homes_missed span.first (span.sectors * 4096) (inl (ap (is_sort OwnedName) e)) (omega arith) (omega arith) lawful.0 lawful.2
      (subst (λ m. option_map home_in (home olds span.first m) ≡ option_map home_in (home news span.first m) → ⊥) lawful.1 differs)
  missed Summed e lawful differs = differs
  missed (Shown t i o x l) e lawful differs = elim (eq_cases (new_flags made free t i) (free t i)) [
    | inl same ↦
        homes_missed x l (inr (ap (is_sort ShownName) e)) lawful.0 lawful.1 differs.0 lawful.2
        (λ homes. differs.1 (ap (λ h. not (free t i) && is_some h) homes ∙ ap (λ f. not f && is_some (option_map home_in (home news x l))) (sym same)))
    | inr other ↦ missed_flag t i (ap (shows_behind t i None) e ∙ shown_itself) other
  ]
    where
      shown_itself : shows_behind t i None (Shown t i o x l) ≡ true
      shown_itself = and_from _ _ (eqb_refl t) (and_from _ _ (eqb_refl i) refl)

  never_missed : ⊥
  never_missed = missed span.sort refl (all.lawful span stands) hit.differs

pub found : (olds news : List Chunk) (n : ℕ) (free : ℕ → ℕ → Bool) (pairs : Pairs) (made : Made) (table : Table) (apart : Bool) (start one two three : set.BTreeSet ItemRef)
    → ((at : ItemRef) → set.contains ref_cmp start at ≡ false) → AreLawful n table → (IsTrue apart → StandApart news)
    → Searched (known olds n free pairs news made) table (MeetsChanged olds (is_searched news apart false) (length olds)) start one
    → Searched (known olds n free pairs news made) table (MeetsChanged news (is_searched olds apart true) (length news)) one two
    → Searched (known olds n free pairs news made) table (ShowsChanged made.inodes.items free (new_flags made free) (length made.inodes.items)) two three
    → IsFound (known olds n free pairs news made) table three
found olds news n free pairs made table apart start one two three empty lawful stand first second third = record {
  hold = λ at has. elim (third.hold at has) [
    | inr its ↦ its
    | inl had ↦ elim (second.hold at had) [
      | inr its ↦ its
      | inl had_first ↦ elim (first.hold at had_first) [
        | inr its ↦ its
        | inl had_start ↦ absurd (both_ways _ (empty at) had_start)
      ]
    ]
  ];
  all = λ span at stands hit. true_from_ne_false _ (λ missing.
      never_missed olds news n free pairs made table apart start one two three
      (record { lawful = lawful; stand = stand; first = first; second = second; third = third }) span at stands hit missing);
}
