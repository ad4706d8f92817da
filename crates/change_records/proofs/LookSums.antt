-- The looks of all passes of a search, summed up.
use Rattle.std.proofs.Common.{◌≡◌, ℕ, suc, ◌+◌, ◌*◌, ◌<◌, ◌≤◌, Bool, true, false, cond, not, ◌&&◌, inl, inr, List, [], ◌∷◌, get_or, length, refl, sym, ap, ◌∙◌, subst, arith, nat_le}
use Rattle.std.specs.Prelude.{◌==◌, Option, Some, None, is_none, is_some, nat_lt}
use Rattle.std.specs.Bool.{beq}
use Rattle.std.specs.List.{AllPairs, Contains, count_by, list_any, sum_by}
use Rattle.std.proofs.lemmas.Bool.{and_from, and_parts, both_ways, cases_order, eqb-true, false_from_ne_true, le-leb, leb-true}
use Rattle.std.proofs.lemmas.Bool.Decides.{nat_tests}
use Rattle.std.proofs.lemmas.List.{get_or_default}
use Rattle.std.proofs.lemmas.List.Elements.{All-contains}
use Rattle.std.proofs.lemmas.List.Sums.{sum_by-cons, sum_by-le-sum_by}
use Rattle.verdict.specs.Chunks.{holds_range, home}
use Rattle.verdict.specs.declared.place.Chunk.{Chunk}
use Rattle.span_index.specs.Order.{is_same}
use Rattle.span_index.specs.Spans.{Table, end_of, shows_behind}
use Rattle.span_index.specs.declared.span.Span.{Span}
use Rattle.span_index.specs.declared.span.SpanSort.{SpanSort}
use Rattle.span_index.specs.declared.span.SpanSort.TheVariants.{Owned, Summed, Shown}
use Rattle.std.proofs.Math.Path.{fun_ext}
use Rattle.records.specs.declared.rec.ItemAt.{ItemAt}
use Rattle.change_records.specs.declared.changes.ItemChange.{ItemChange}
use Rattle.change_records.specs.declared.kept.Inode.{Inode}
use Rattle.change_records.specs.declared.kept.Made.{Made}
use Rattle.change_records.specs.Made.{IsMade}
use Rattle.change_records.specs.Search.{new_flags}
use Rattle.change_records.specs.SumFree.{flags_after}
use Rattle.change_records.specs.Homes.{StandApart, is_kept}
use Rattle.change_records.specs.Looks.{AreHoused, HaveStops, IsHoused, LiesInExtent, home_of_sort, home_of_span, is_gone, is_of_extent, is_reached, is_turned, most_looks, stands_for, turns}
use Rattle.change_records.specs.Passes.{AreSpansOf, AreStopsOf, chunks_looks, inodes_looks, is_other, is_searched, is_shown, meets, search_looks}
use Rattle.change_records.proofs.HomeLaws.{home_none, home_some, like_of}
use Rattle.change_records.proofs.LookLaws.{same_is, sum_both}
use Rattle.change_records.proofs.Merge.{contains_first, contains_more}

-- ---- sums

-- how many of a list pass a test that none of it passes
none_counted : {X : Type 0} (q : X → Bool) (xs : List X) → ((k : ℕ) (d : X) → k < length xs → q (get_or xs k d) ≡ true → ⊥) → count_by q xs ≡ 0
none_counted q [] none = refl
none_counted q (y ∷ ys) none =
    let a : count_by q (y ∷ ys) ≡ cond (q y) 1 0 + count_by q ys = sum_by-cons (λ x. cond (q x) 1 0) y ys in
    let b : cond {A = ℕ} (q y) 1 0 ≡ 0 = ap (λ z. cond z 1 0) (false_from_ne_true _ (none 0 y (omega arith))) in
    let d : count_by q ys ≡ 0 = none_counted q ys (λ k d small. none (suc k) d (omega arith)) in
    omega arith

-- one of a list at most passes a test, and then another holds
one_counted : {X : Type 0} (q : X → Bool) (b : Bool) (xs : List X) → ((k : ℕ) (d : X) → k < length xs → q (get_or xs k d) ≡ true → b ≡ true)
    → ((i j : ℕ) (d : X) → i < j → j < length xs → q (get_or xs i d) ≡ true → q (get_or xs j d) ≡ true → ⊥) → count_by q xs ≤ cond b 1 0
one_counted q b [] then alone = omega arith
one_counted q b (y ∷ ys) then alone =
    by (q y) refl (one_counted q b ys (λ k d small. then (suc k) d (omega arith)) (λ i j d below small. alone (suc i) (suc j) d (omega arith) (omega arith)))
  where
    by : (c : Bool) → q y ≡ c → count_by q ys ≤ cond b 1 0 → count_by q (y ∷ ys) ≤ cond b 1 0
    by true e later =
        let rest : count_by q ys ≡ 0 = none_counted q ys (λ k d small is. alone 0 (suc k) d (omega arith) (omega arith) e is) in
        let first : cond {A = ℕ} (q y) 1 0 ≡ 1 = ap (λ z. cond z 1 0) e in
        let one : cond {A = ℕ} b 1 0 ≡ 1 = ap (λ z. cond z 1 0) (then 0 y (omega arith) e) in
        let whole : count_by q (y ∷ ys) ≡ cond (q y) 1 0 + count_by q ys = sum_by-cons (λ x. cond (q x) 1 0) y ys in
        omega (arith, rest, first, one, whole)
    by false e later =
        let first : cond {A = ℕ} (q y) 1 0 ≡ 0 = ap (λ z. cond z 1 0) e in
        let whole : count_by q (y ∷ ys) ≡ cond (q y) 1 0 + count_by q ys = sum_by-cons (λ x. cond (q x) 1 0) y ys in
        omega (arith, later, first, whole)

-- a sum of terms that are larger for what is on the list
sum_among : {Y : Type 0} (f g : Y → ℕ) (ys : List Y) → ((k : ℕ) (d : Y) → k < length ys → f (get_or ys k d) ≤ g (get_or ys k d)) → sum_by f ys ≤ sum_by g ys
sum_among f g [] each = omega arith
sum_among f g (y ∷ ys) each =
    let a : sum_by f (y ∷ ys) ≡ f y + sum_by f ys = sum_by-cons f y ys in
    let b : sum_by g (y ∷ ys) ≡ g y + sum_by g ys = sum_by-cons g y ys in
    let c : f y ≤ g y = each 0 y (omega arith) in
    let d : sum_by f ys ≤ sum_by g ys = sum_among f g ys (λ k d small. each (suc k) d (omega arith)) in
    omega arith

-- a sum over some of sums over others, the other way round
module _ {X Y : Type 0} (t : X → Bool) (m : X → Y → Bool) (base : ℕ) (ys : List Y) where
  abbrev both : X → Y → Bool
  both x y = t x && m x y

  abbrev looks : X → ℕ
  looks x = cond (t x) (base + 2 * count_by (m x) ys) 0

  abbrev meetings : List X → Y → ℕ
  meetings xs y = count_by (λ x. both x y) xs

  one_row : (x : X) → looks x ≤ base + 2 * count_by (both x) ys
  one_row x = by (t x) refl
    where
      by : (b : Bool) → t x ≡ b → looks x ≤ base + 2 * count_by (both x) ys
      by true e =
          let is : looks x ≡ base + 2 * count_by (m x) ys = ap (λ z. cond z (base + 2 * count_by (m x) ys) 0) e in
          let same : count_by (both x) ys ≡ count_by (m x) ys = ap (λ z. count_by (λ y. z && m x y) ys) e in
          omega (arith, is, same)
      by false e = let is : looks x ≡ 0 = ap (λ z. cond z (base + 2 * count_by (m x) ys) 0) e in omega (arith, is)

  exchanged : (xs : List X) → sum_by looks xs ≤ length xs * base + 2 * sum_by (meetings xs) ys
  exchanged [] = omega arith
  exchanged (x ∷ xs) =
      let a : sum_by looks (x ∷ xs) ≡ looks x + sum_by looks xs = sum_by-cons looks x xs in
      let b : looks x ≤ base + 2 * count_by (both x) ys = one_row x in
      let c : sum_by looks xs ≤ length xs * base + 2 * sum_by (meetings xs) ys = exchanged xs in
      let d : sum_by (λ y. cond (both x y) 1 0 + meetings xs y) ys ≡ count_by (both x) ys + sum_by (meetings xs) ys =
      sum_both (λ y. cond {A = ℕ} (both x y) 1 0) (meetings xs) ys in
      let e : sum_by (λ y. cond (both x y) 1 0 + meetings xs y) ys ≤ sum_by (meetings (x ∷ xs)) ys =
      sum_by-le-sum_by (λ y. cond {A = ℕ} (both x y) 1 0 + meetings xs y) (meetings (x ∷ xs)) ys (λ y. row y) in
      omega (arith, a, b, c, d, e)
    where
      row : (y : Y) → cond {A = ℕ} (both x y) 1 0 + meetings xs y ≤ meetings (x ∷ xs) y
      row y = let is : meetings (x ∷ xs) y ≡ cond (both x y) 1 0 + meetings xs y = sum_by-cons (λ z. cond {A = ℕ} (both z y) 1 0) x xs in omega (arith, is)

-- ---- one span

-- what is known of a chunk that meets a span
record IsMeeting (chunk : Chunk) (span : Span) : Type 0 where
  pub sort : is_of_extent span.sort ≡ true
  pub ends : chunk.start < end_of span
  pub begins : span.first < chunk.start + chunk.length

meeting : (chunk : Chunk) (span : Span) → meets chunk span ≡ true → IsMeeting chunk span
unfolding meets
meeting chunk span is =
    let first = and_parts (is_of_extent span.sort) (nat_lt chunk.start (end_of span) && nat_lt span.first (chunk.start + chunk.length)) is in
    let rest = and_parts (nat_lt chunk.start (end_of span)) (nat_lt span.first (chunk.start + chunk.length)) first.1 in
    let e1 : nat_lt chunk.start (end_of span) ≡ true = rest.0 in
    let e2 : nat_lt span.first (chunk.start + chunk.length) ≡ true = rest.1 in
    record { sort = first.0; ends = grind (arith, nat_tests); begins = grind (arith, nat_tests) }

-- the range of a span lies in the chunk that holds it
record IsInside (chunk : Chunk) (span : Span) : Type 0 where
  pub from : chunk.start ≤ span.first
  pub until : end_of span ≤ chunk.start + chunk.length

-- a chunk is among some, and the range of a span lies in it
record IsPlace (chunks : List Chunk) (c : Chunk) (span : Span) : Type 0 where
  pub among : Contains chunks c
  pub inside : IsInside c span

within : (chunks : List Chunk) (at bytes : ℕ) (c : Chunk) → home chunks at bytes ≡ Some c → (span : Span) → at ≤ span.first
    → span.first + span.sectors * 4096 ≤ at + bytes → IsPlace chunks c span
within chunks at bytes c is span low high =
    let holder = home_some chunks at bytes c is in
    let both = and_parts (nat_le c.start at) (nat_le (at + bytes) (c.start + c.length)) holder.holds in
    let from : c.start ≤ at = leb-true _ _ both.0 in
    let until : at + bytes ≤ c.start + c.length = leb-true _ _ both.1 in
    record { among = holder.among; inside = record { from = omega (arith, low, from); until = omega (arith, high, until) } }

placed : (chunks : List Chunk) (span : Span) (c : Chunk) (sort : SpanSort) → home_of_sort chunks span.first span.sectors sort ≡ Some c
    → LiesInExtent span.first span.sectors sort → IsPlace chunks c span
placed chunks span c (Owned d) is lies = within chunks span.first (span.sectors * 4096) c is span (omega arith) (omega arith)
placed chunks span c Summed is lies = within chunks span.first (span.sectors * 4096) c is span (omega arith) (omega arith)
placed chunks span c (Shown t i o extent bytes) is lies = within chunks extent bytes c is span lies.0 lies.1

-- where two chunks that stand apart both meet a range that one of them holds, they are one
one_place : (chunks : List Chunk) (span : Span) (c : Chunk) (among : Contains chunks c) (k : ℕ) (d : Chunk) → StandApart chunks → IsInside c span → k < length chunks
    → IsMeeting (get_or chunks k d) span → k ≡ among.0
one_place chunks span c among k d apart within small met = elim (cases_order k among.0) [
  | inl same ↦ same
  | inr other ↦ elim other [
    | inl below ↦ absurd (
        let gap : (get_or chunks k d).start + (get_or chunks k d).length ≤ (get_or chunks among.0 d).start = apart k among.0 d below among.1 in
        let at : (get_or chunks among.0 d).start ≡ c.start = ap (λ x. x.start) (here d) in
        let from = within.from in
        let begins = met.begins in
        omega (arith, gap, at, from, begins))
    | inr above ↦ absurd (
        let gap : (get_or chunks among.0 d).start + (get_or chunks among.0 d).length ≤ (get_or chunks k d).start = apart among.0 k d above small in
        let at : (get_or chunks among.0 d).start ≡ c.start = ap (λ x. x.start) (here d) in
        let size : (get_or chunks among.0 d).length ≡ c.length = ap (λ x. x.length) (here d) in
        let until = within.until in
        let ends = met.ends in
        omega (arith, gap, at, size, until, ends))
  ]
]
  where
    here : (d : Chunk) → get_or chunks among.0 d ≡ c
    here d = sym (get_or_default chunks among.0 c d among.1) ∙ among.2

searched_old : (news : List Chunk) (c : Chunk) → is_searched news true false c ≡ true → is_kept news c ≡ false
unfolding is_searched
searched_old news c is = by (is_kept news c) is
  where
    by : (b : Bool) → not b ≡ true → b ≡ false
    by true e = absurd (cc)
    by false e = refl

searched_new : (olds : List Chunk) (c : Chunk) → is_searched olds true true c ≡ true → home olds c.start c.length ≡ None
unfolding is_searched
searched_new olds c is = by (home olds c.start c.length) is
  where
    by : (o : Option Chunk) → is_none o ≡ true → o ≡ None
    by None e = refl
    by (Some d) e = absurd (cc)

module _ (olds news : List Chunk) (span : Span) where
  reached_by : (c : Chunk) → is_of_extent span.sort ≡ true → home_of_span olds span ≡ Some c → is_kept news c ≡ false → is_reached olds news span ≡ true
  unfolding is_reached
  reached_by c sort is kept = and_from _ _ sort (ap (is_gone news) is ∙ ap not kept)

  module _ (apart : StandApart olds) (c : Chunk) (is : home_of_span olds span ≡ Some c) (lies : LiesInExtent span.first span.sectors span.sort) where
    holder : IsPlace olds c span
    holder = placed olds span c span.sort is lies

    its_range : IsInside c span
    its_range = holder.inside

    -- the old chunk that holds a span is the only one that meets it
    first_one : count_by (λ x. is_searched news true false x && meets x span) olds ≤ cond (is_reached olds news span) 1 0
    first_one = one_counted (λ x. is_searched news true false x && meets x span) (is_reached olds news span) olds then alone
      where
        parts : (k : ℕ) (d : Chunk) → (is_searched news true false (get_or olds k d) && meets (get_or olds k d) span) ≡ true
            → (is_kept news (get_or olds k d) ≡ false) × IsMeeting (get_or olds k d) span
        parts k d e =
            let both = and_parts (is_searched news true false (get_or olds k d)) (meets (get_or olds k d) span) e in
            (searched_old news (get_or olds k d) both.0, meeting (get_or olds k d) span both.1)

        then : (k : ℕ) (d : Chunk) → k < length olds → (is_searched news true false (get_or olds k d) && meets (get_or olds k d) span) ≡ true → is_reached olds news span ≡ true
        then k d small e =
            let both = parts k d e in
            let place : k ≡ holder.among.0 = one_place olds span c holder.among k d apart its_range small both.1 in
            let one : get_or olds k d ≡ c = ap (λ i. get_or olds i d) place ∙ sym (get_or_default olds holder.among.0 c d holder.among.1) ∙ holder.among.2 in
            reached_by c both.1.sort is (subst (λ x. is_kept news x ≡ false) one both.0)

        alone : (i j : ℕ) (d : Chunk) → i < j → j < length olds → (is_searched news true false (get_or olds i d) && meets (get_or olds i d) span) ≡ true
            → (is_searched news true false (get_or olds j d) && meets (get_or olds j d) span) ≡ true → ⊥
        alone i j d below small one other =
            let first : i ≡ holder.among.0 = one_place olds span c holder.among i d apart its_range (omega arith) (parts i d one).1 in
            let second : j ≡ holder.among.0 = one_place olds span c holder.among j d apart its_range small (parts j d other).1 in
            omega (arith, below, first, second)

    module _ (new_apart : StandApart news) where
      -- a new chunk that meets the span, and lies whole in no old chunk
      record IsCome (d : Chunk) : Type 0 where
        pub meets : IsMeeting d span
        pub none : home olds d.start d.length ≡ None

      come : (d : Chunk) → (is_searched olds true true d && meets d span) ≡ true → IsCome d
      come d e =
          let both = and_parts (is_searched olds true true d) (meets d span) e in
          record { meets = meeting d span both.1; none = searched_new olds d both.0 }

      -- it passes an end of the old chunk that holds the span
      not_held : (d : Chunk) → IsCome d → holds_range c d.start d.length ≡ false
      not_held d its =
          subst (λ x. holds_range x d.start d.length ≡ false) (holder.among.2) (home_none olds d.start d.length its.none holder.among.0 c holder.among.1)

      -- the old chunk is not kept then
      gone : (k : ℕ) (d : Chunk) → k < length news → IsCome (get_or news k d) → is_kept news c ≡ false
      gone k d small its = false_from_ne_true _ (λ kept.
          (let itself : holds_range c c.start c.length ≡ true = and_from _ _ (le-leb c.start c.start (omega arith)) (le-leb (c.start + c.length) (c.start + c.length) (omega arith)) in
          let like = like_of news c c.start c.length kept itself in
          let start : like.0.start ≡ c.start = ap (λ h. h.start) like.1.same in
          let size : like.0.length ≡ c.length = ap (λ h. h.length) like.1.same in
          let range : IsInside like.0 span = record {
            from = let from = its_range.from in omega (arith, start, from);
            until = let until = its_range.until in omega (arith, start, size, until);
          } in
          let place : k ≡ like.1.holder.among.0 = one_place news span like.0 like.1.holder.among k d new_apart range small its.meets in
          let one : get_or news k d ≡ like.0 = ap (λ i. get_or news i d) place ∙ sym (get_or_default news like.1.holder.among.0 like.0 d like.1.holder.among.1) ∙ like.1.holder.among.2 in
          let out : holds_range c (get_or news k d).start (get_or news k d).length ≡ false = not_held (get_or news k d) its in
          let at : (get_or news k d).start ≡ c.start = ap (λ x. x.start) one ∙ start in
          let long : (get_or news k d).length ≡ c.length = ap (λ x. x.length) one ∙ size in
          let in_it : holds_range c (get_or news k d).start (get_or news k d).length ≡ true =
          and_from _ _ (le-leb c.start (get_or news k d).start (omega (arith, at))) (le-leb ((get_or news k d).start + (get_or news k d).length) (c.start + c.length) (omega (arith, at, long))) in
          both_ways _ out in_it))

      abbrev low_test : Chunk → Bool
      low_test d = (is_searched olds true true d && meets d span) && nat_lt d.start c.start

      abbrev high_test : Chunk → Bool
      high_test d = (is_searched olds true true d && meets d span) && nat_lt (c.start + c.length) (d.start + d.length)

      low_one : count_by low_test news ≤ cond (is_reached olds news span) 1 0
      low_one = one_counted low_test (is_reached olds news span) news then alone
        where
          then : (k : ℕ) (d : Chunk) → k < length news → low_test (get_or news k d) ≡ true → is_reached olds news span ≡ true
          then k d small e =
              let its = come (get_or news k d) (and_parts _ (nat_lt (get_or news k d).start c.start) e).0 in
              reached_by c its.meets.sort is (gone k d small its)

          alone : (i j : ℕ) (d : Chunk) → i < j → j < length news → low_test (get_or news i d) ≡ true → low_test (get_or news j d) ≡ true → ⊥
          alone i j d below small one other =
              let its = come (get_or news i d) (and_parts _ (nat_lt (get_or news i d).start c.start) one).0 in
              let low : nat_lt (get_or news j d).start c.start ≡ true = (and_parts (is_searched olds true true (get_or news j d) && meets (get_or news j d) span) _ other).1 in
              let before : (get_or news j d).start < c.start = grind (arith, nat_tests) in
              let gap : (get_or news i d).start + (get_or news i d).length ≤ (get_or news j d).start = new_apart i j d below small in
              let begins = its.meets.begins in
              let from = its_range.from in
              omega (arith, before, gap, begins, from)

      high_one : count_by high_test news ≤ cond (is_reached olds news span) 1 0
      high_one = one_counted high_test (is_reached olds news span) news then alone
        where
          then : (k : ℕ) (d : Chunk) → k < length news → high_test (get_or news k d) ≡ true → is_reached olds news span ≡ true
          then k d small e =
              let its = come (get_or news k d) (and_parts _ (nat_lt (c.start + c.length) ((get_or news k d).start + (get_or news k d).length)) e).0 in
              reached_by c its.meets.sort is (gone k d small its)

          alone : (i j : ℕ) (d : Chunk) → i < j → j < length news → high_test (get_or news i d) ≡ true → high_test (get_or news j d) ≡ true → ⊥
          alone i j d below small one other =
              let its = come (get_or news j d) (and_parts _ (nat_lt (c.start + c.length) ((get_or news j d).start + (get_or news j d).length)) other).0 in
              let high : nat_lt (c.start + c.length) ((get_or news i d).start + (get_or news i d).length) ≡ true =
              (and_parts (is_searched olds true true (get_or news i d) && meets (get_or news i d) span) _ one).1 in
              let behind : c.start + c.length < (get_or news i d).start + (get_or news i d).length = grind (arith, nat_tests) in
              let gap : (get_or news i d).start + (get_or news i d).length ≤ (get_or news j d).start = new_apart i j d below small in
              let ends = its.meets.ends in
              let until = its_range.until in
              omega (arith, behind, gap, ends, until)

      -- two new chunks at most meet a span and lie whole in no old chunk: one passes either end of the old chunk that holds the span
      second_two : count_by (λ d. is_searched olds true true d && meets d span) news ≤ cond (is_reached olds news span) 1 0 + cond (is_reached olds news span) 1 0
      second_two =
          let a = sum_by-le-sum_by (λ d. cond {A = ℕ} (is_searched olds true true d && meets d span) 1 0) (λ d. cond {A = ℕ} (low_test d) 1 0 + cond (high_test d) 1 0) news either in
          let b = sum_both (λ d. cond {A = ℕ} (low_test d) 1 0) (λ d. cond (high_test d) 1 0) news in
          let e = low_one in
          let f = high_one in
          omega (arith, a, b, e, f)
        where
          tests : (q l h : Bool) → (q ≡ true → l ≡ false → h ≡ false → ⊥) → cond {A = ℕ} q 1 0 ≤ cond (q && l) 1 0 + cond (q && h) 1 0
          tests false l h never = omega arith
          tests true true h never = omega arith
          tests true false true never = omega arith
          tests true false false never = absurd (never refl refl refl)

          either : (d : Chunk) → cond {A = ℕ} (is_searched olds true true d && meets d span) 1 0 ≤ cond (low_test d) 1 0 + cond (high_test d) 1 0
          either d =
              tests (is_searched olds true true d && meets d span) (nat_lt d.start c.start) (nat_lt (c.start + c.length) (d.start + d.length))
              (λ e low high.
              (let its = come d e in
              let out = not_held d its in
              let from : c.start ≤ d.start = grind (arith, nat_tests) in
              let until : d.start + d.length ≤ c.start + c.length = grind (arith, nat_tests) in
              both_ways _ out (and_from _ _ (le-leb _ _ from) (le-leb _ _ until))))

-- a span that no extent owns and no file shows meets no chunk
never_meets : (searched : Chunk → Bool) (chunks : List Chunk) (span : Span) → is_of_extent span.sort ≡ false → count_by (λ c. searched c && meets c span) chunks ≡ 0
never_meets searched chunks span no_extent =
    none_counted (λ c. searched c && meets c span) chunks
    (λ k d small e. both_ways _ no_extent (meeting (get_or chunks k d) span (and_parts (searched (get_or chunks k d)) (meets (get_or chunks k d) span) e).1).sort)

module _ (olds news : List Chunk) (apart : StandApart olds) (new_apart : StandApart news) (span : Span) (housed : is_of_extent span.sort ≡ true → IsHoused olds span) where
  one_first : count_by (λ c. is_searched news true false c && meets c span) olds ≤ cond (is_reached olds news span) 1 0
  one_first = by (is_of_extent span.sort) refl
    where
      with_home : (o : Option Chunk) → home_of_span olds span ≡ o → is_some o ≡ true → LiesInExtent span.first span.sectors span.sort
          → count_by (λ c. is_searched news true false c && meets c span) olds ≤ cond (is_reached olds news span) 1 0
      with_home None e some lies = absurd (cc)
      with_home (Some c) e some lies = first_one olds news span apart c e lies

      by : (b : Bool) → is_of_extent span.sort ≡ b → count_by (λ c. is_searched news true false c && meets c span) olds ≤ cond (is_reached olds news span) 1 0
      by true e = with_home (home_of_span olds span) refl (housed e).1 (housed e).0
      by false e = let none = never_meets (is_searched news true false) olds span e in omega (arith, none)

  two_second : count_by (λ c. is_searched olds true true c && meets c span) news ≤ cond (is_reached olds news span) 1 0 + cond (is_reached olds news span) 1 0
  two_second = by (is_of_extent span.sort) refl
    where
      with_home : (o : Option Chunk) → home_of_span olds span ≡ o → is_some o ≡ true → LiesInExtent span.first span.sectors span.sort
          → count_by (λ c. is_searched olds true true c && meets c span) news ≤ cond (is_reached olds news span) 1 0 + cond (is_reached olds news span) 1 0
      with_home None e some lies = absurd (cc)
      with_home (Some c) e some lies = second_two olds news span apart c e lies new_apart

      by : (b : Bool) → is_of_extent span.sort ≡ b
          → count_by (λ c. is_searched olds true true c && meets c span) news ≤ cond (is_reached olds news span) 1 0 + cond (is_reached olds news span) 1 0
      by true e = with_home (home_of_span olds span) refl (housed e).1 (housed e).0
      by false e = let none = never_meets (is_searched olds true true) news span e in omega (arith, none)

-- ---- one span that an inode shows

shown_turns : (before after : ℕ → ℕ → Bool) (inode : Inode) (sort : SpanSort) → shows_behind inode.tree inode.ino None sort ≡ true → is_other before after inode ≡ true
    → turns before after sort ≡ true
shown_turns before after inode (Owned d) shown other = absurd (cc)
shown_turns before after inode Summed shown other = absurd (cc)
shown_turns before after inode (Shown t i o x l) shown other =
    let first = and_parts (t == inode.tree) (i == inode.ino && true) shown in
    let rest = and_parts (i == inode.ino) true first.1 in
    let e1 : t ≡ inode.tree = eqb-true _ _ first.0 in
    let e2 : i ≡ inode.ino = eqb-true _ _ rest.0 in
    ap (λ z. not (beq (after z i) (before z i))) e1 ∙ ap (λ z. not (beq (after inode.tree z) (before inode.tree z))) e2 ∙ other

shown_one : (one other : Inode) (sort : SpanSort) → shows_behind one.tree one.ino None sort ≡ true → shows_behind other.tree other.ino None sort ≡ true → one ≡ other
shown_one one other (Owned d) shown also = absurd (cc)
shown_one one other Summed shown also = absurd (cc)
shown_one one other (Shown t i o x l) shown also =
    let first = and_parts (t == one.tree) (i == one.ino && true) shown in
    let rest = and_parts (i == one.ino) true first.1 in
    let first' = and_parts (t == other.tree) (i == other.ino && true) also in
    let rest' = and_parts (i == other.ino) true first'.1 in
    let e1 : one.tree ≡ other.tree = sym (eqb-true _ _ first.0) ∙ eqb-true _ _ first'.0 in
    let e2 : one.ino ≡ other.ino = sym (eqb-true _ _ rest.0) ∙ eqb-true _ _ rest'.0 in
    λ j. record { tree = e1 j; ino = e2 j }

one_inode : (before after : ℕ → ℕ → Bool) (inodes : List Inode) (span : Span) → AllPairs (λ one other. one ≡ other → ⊥) inodes
    → count_by (λ n. is_other before after n && is_shown n span) inodes ≤ cond (is_turned before after span) 1 0
unfolding is_shown is_turned
one_inode before after inodes span distinct =
    one_counted (λ n. is_other before after n && is_shown n span) (is_turned before after span) inodes
    (λ k d small e.
    (let both = and_parts (is_other before after (get_or inodes k d)) (is_shown (get_or inodes k d) span) e in
    shown_turns before after (get_or inodes k d) span.sort both.1 both.0))
    (λ i j d below small e f.
    distinct i j d below small
    (shown_one (get_or inodes i d) (get_or inodes j d) span.sort (and_parts (is_other before after (get_or inodes i d)) (is_shown (get_or inodes i d) span) e).1
    (and_parts (is_other before after (get_or inodes j d)) (is_shown (get_or inodes j d) span) f).1))

-- ---- all spans

module _ (olds news : List Chunk) (before after : ℕ → ℕ → Bool) (spans stops : List Span) where
  first_pass : StandApart olds → StandApart news → AreHoused olds stops → chunks_looks (is_searched news true false) stops olds ≤ 2 * length olds + 2 * count_by (is_reached olds news) stops
  unfolding chunks_looks
  first_pass apart new_apart housed =
      let a = exchanged (is_searched news true false) meets 2 stops olds in
      let b = sum_among (λ s. count_by (λ c. is_searched news true false c && meets c s) olds) (λ s. cond (is_reached olds news s) 1 0) stops
      (λ k d small. one_first olds news apart new_apart (get_or stops k d) (housed k d small)) in
      omega (arith, a, b)

  second_pass : StandApart olds → StandApart news → AreHoused olds stops → chunks_looks (is_searched olds true true) stops news ≤ 2 * length news + 4 * count_by (is_reached olds news) stops
  unfolding chunks_looks
  second_pass apart new_apart housed =
      let a = exchanged (is_searched olds true true) meets 2 stops news in
      let b = sum_among (λ s. count_by (λ c. is_searched olds true true c && meets c s) news) (λ s. cond {A = ℕ} (is_reached olds news s) 1 0 + cond (is_reached olds news s) 1 0) stops
      (λ k d small. two_second olds news apart new_apart (get_or stops k d) (housed k d small)) in
      let e = sum_both (λ s. cond {A = ℕ} (is_reached olds news s) 1 0) (λ s. cond (is_reached olds news s) 1 0) stops in
      omega (arith, a, b, e)

  third_pass : (inodes : List Inode) → AllPairs (λ one other. one ≡ other → ⊥) inodes → inodes_looks before after spans inodes ≤ length inodes + 2 * count_by (is_turned before after) spans
  unfolding inodes_looks
  third_pass inodes distinct =
      let a = exchanged (is_other before after) is_shown 1 spans inodes in
      let b = sum_among (λ s. count_by (λ n. is_other before after n && is_shown n s) inodes) (λ s. cond (is_turned before after s) 1 0) spans
      (λ k d small. one_inode before after inodes (get_or spans k d) distinct) in
      omega (arith, a, b)

  pub all_passes : (inodes : List Inode) (changes : ℕ) → StandApart olds → StandApart news → AreHoused olds stops → AllPairs (λ one other. one ≡ other → ⊥) inodes
      → length inodes ≤ 2 * changes → search_looks olds news before after spans stops inodes ≤ most_looks olds news before after spans stops changes
  unfolding most_looks
  all_passes inodes changes apart new_apart housed distinct few =
      let a = first_pass apart new_apart housed in
      let b = second_pass apart new_apart housed in
      let e = third_pass inodes distinct in
      omega (arith, a, b, e, few)

-- the same where the changes are what the flags and the inodes are of
pub looks_most : (olds news : List Chunk) (free : ℕ → ℕ → Bool) (made : Made) (old new : List ItemAt) (changes : List ItemChange) (spans stops : List Span) → IsMade old new changes made
    → StandApart olds → StandApart news → AreHoused olds stops → (before after : ℕ)
    → after ≤ before + search_looks olds news free (new_flags made free) spans stops made.inodes.items
    → after ≤ before + most_looks olds news free (flags_after old new changes free) spans stops (length changes)
looks_most olds news free made old new changes spans stops is apart new_apart housed before after looked =
    subst (λ flags. after ≤ before + most_looks olds news free flags spans stops (length changes)) (fun_ext (λ tree. fun_ext (λ ino. is.flags tree ino (free tree ino))))
    (let most = all_passes olds news free (new_flags made free) spans stops made.inodes.items (length changes) apart new_apart housed is.once.distinct is.once.few in
    omega (arith, looked, most))

among_here : (span x : Span) (xs : List Span) (b : Bool) → is_same span x ≡ b → 0 < count_by (is_same span) (x ∷ xs)
    → (0 < count_by (is_same span) xs → Contains xs span) → Contains (x ∷ xs) span
among_here span x xs true same some later = subst (Contains (x ∷ xs)) (sym (same_is span x same)) (contains_first x xs)
among_here span x xs false same some later =
    let whole : count_by (is_same span) (x ∷ xs) ≡ cond (is_same span x) 1 0 + count_by (is_same span) xs = sum_by-cons (λ y. cond (is_same span y) 1 0) x xs in
    let none : cond {A = ℕ} (is_same span x) 1 0 ≡ 0 = ap (λ z. cond z 1 0) same in
    contains_more x xs span (later (omega (arith, some, whole, none)))

counted_among : (span : Span) (xs : List Span) → 0 < count_by (is_same span) xs → Contains xs span
counted_among span [] some = absurd (omega (arith, some))
counted_among span (x ∷ xs) some = among_here span x xs (is_same span x) refl some (counted_among span xs)

-- what stands for the spans of a list stands for those of their table
pub stops_of : (table : Table) (spans stops : List Span) → AreSpansOf table spans → HaveStops spans stops → AreStopsOf table stops
stops_of table spans stops are have span stands =
    All-contains (λ (x : Span). list_any (stands_for x) stops ≡ true) spans span have (counted_among span spans (subst (λ n. 0 < n) (are span) stands))
