-- What the spans come to that a walk has passed.
use Rattle.std.proofs.Common.{◌≡◌, ℕ, ◌-◌, ◌+◌, ◌*◌, ◌<◌, ◌≤◌, ◌%◌, Bool, true, false, cond, ◌&&◌, List, refl, sym, ap, ◌∙◌, subst, arith}
use Rattle.std.specs.Prelude.{◌==◌, Option, Some, None, min, nat_le, nat_lt}
use Rattle.std.specs.List.{sum_by}
use Rattle.recon_disk.specs.Outside.{counted}
use Rattle.std.proofs.lemmas.Bool.Decides.{nat_tests}
use Rattle.accounts.specs.Context.{Context}
use Rattle.span_index.specs.declared.reach.Reach.{Reach}
use Rattle.span_index.specs.declared.cursor.Head.{Head}
use Rattle.span_index.specs.declared.cursor.Head.TheVariants.{Start, At, End}
use Rattle.span_index.specs.declared.cursor.Walk.{Walk}
use Rattle.span_index.specs.declared.span.Span.{Span}
use Rattle.span_index.specs.declared.span.SpanSort.{SpanSort}
use Rattle.span_index.specs.declared.span.SpanSort.TheVariants.{Owned, Summed, Shown}
use Rattle.span_index.specs.declared.span.SortName.{SortName}
use Rattle.span_index.specs.declared.span.SortName.TheVariants.{Owned as OwnedName, Summed as SummedName, Shown as ShownName}
use Rattle.span_index.specs.Reach.{reaching}
use Rattle.span_index.specs.Sectors.{adds, adds_to, counts, has_sector, times_of_span}
use Rattle.span_index.specs.Spans.{Table, end_of, is_sort}
use Rattle.span_index.specs.Sweep.{IsBegun, IsHead, IsStep, at_sum, is_passed, is_reaching, passed_sum}
use Rattle.span_index.specs.Walks.{IsBeginning, IsPassing, IsWalked, due, is_data, is_field, is_settled, reach_in}
use Rattle.span_index.proofs.SumLaws.{step_kept, step_sum, step_worth, sum_le}
use Rattle.verdict.proofs.Truth.{and_left, and_right, and_true}
use Rattle.verdict.proofs.Answers.{some_is}

-- spans of a sort add to sum 1 where they are of data, and to each other sum of the sort
adds_data : (n : SortName) (sort : SpanSort) (field : ℕ) → is_sort n sort ≡ true → is_field n field ≡ true → (field == 1) ≡ true → adds_to sort field ≡ is_data sort
adds_data OwnedName (Owned true) field s f e = grind (arith, nat_tests)
adds_data OwnedName (Owned false) field s f e = grind (arith, nat_tests)
adds_data OwnedName Summed field s f e = absurd (cc)
adds_data OwnedName (Shown t i o x l) field s f e = absurd (cc)
adds_data SummedName sort field s f e = absurd (let a : field ≡ 2 = grind (arith, nat_tests) in let b : field ≡ 1 = grind (arith, nat_tests) in omega arith)
adds_data ShownName sort field s f e = absurd (let a : field ≡ 3 = grind (arith, nat_tests) in let b : field ≡ 1 = grind (arith, nat_tests) in omega arith)

adds_other : (n : SortName) (sort : SpanSort) (field : ℕ) → is_sort n sort ≡ true → is_field n field ≡ true → (field == 1) ≡ false → adds_to sort field ≡ true
adds_other OwnedName (Owned d) field s f e = grind (arith, nat_tests)
adds_other OwnedName Summed field s f e = absurd (cc)
adds_other OwnedName (Shown t i o x l) field s f e = absurd (cc)
adds_other SummedName (Owned d) field s f e = absurd (cc)
adds_other SummedName Summed field s f e = f
adds_other SummedName (Shown t i o x l) field s f e = absurd (cc)
adds_other ShownName (Owned d) field s f e = absurd (cc)
adds_other ShownName Summed field s f e = absurd (cc)
adds_other ShownName (Shown t i o x l) field s f e = f

-- what reaches past a sector that it begins at or before, of what counts, is at sectors, and is asked for
amount : (l g c w : Bool) (n : ℕ) → cond l (cond w (cond (c && g) n 0) 0) 0 ≡ n * cond ((l && g) && (c && w)) 1 0
amount true true true true n = omega arith
amount true true true false n = omega arith
amount true true false true n = omega arith
amount true true false false n = omega arith
amount true false true true n = omega arith
amount true false true false n = omega arith
amount true false false true n = omega arith
amount true false false false n = omega arith
amount false g c w n = omega arith

module _ (context : Context) (span : Span) (times later field : ℕ) (at_sector : later % 4096 ≡ 0) (begun : span.first ≤ later) where
  adds_is : (w : Bool) → adds_to span.sort field ≡ w
      → adds context later field span ≡ cond ((nat_lt later (end_of span) && span.first % 4096 == 0) && (counts context span span.sort && w)) 1 0
  unfolding adds
  adds_is w is =
      let before : nat_le span.first later ≡ true = grind (arith, nat_tests) in
      ap (λ b. cond ((b && (nat_lt later (end_of span) && span.first % 4096 == later % 4096)) && (counts context span span.sort && adds_to span.sort field)) 1 0) before
      ∙ ap (λ n. cond ((nat_lt later (end_of span) && span.first % 4096 == n) && (counts context span span.sort && adds_to span.sort field)) 1 0) at_sector
      ∙ ap (λ b. cond ((nat_lt later (end_of span) && span.first % 4096 == 0) && (counts context span span.sort && b)) 1 0) is

  amount_is : (w : Bool) → adds_to span.sort field ≡ w
      → cond (nat_lt later (end_of span)) (cond w (cond (counts context span span.sort && span.first % 4096 == 0) times 0) 0) 0 ≡ times * adds context later field span
  amount_is w is =
      amount (nat_lt later (end_of span)) (span.first % 4096 == 0) (counts context span span.sort) w times
      ∙ ap (λ n. times * n) (sym (adds_is w is))

  module _ (n d : ℕ) (old new : Walk) (sort : is_sort old.sort span.sort ≡ true) (of_sort : is_field old.sort field ≡ true)
      (n_is : n ≡ cond (counts context span span.sort && span.first % 4096 == 0) times 0) (d_is : d ≡ cond (is_data span.sort) n 0)
      (end : ℕ) (end_is : end ≡ end_of span)
      (all : reaching new.all later ≡ min (reaching old.all later + cond (nat_lt later end) n 0) 2)
      (of_data : reaching new.of_data later ≡ min (reaching old.of_data later + cond (nat_lt later end) d 0) 2) where
    pub reaches : reaching (reach_in new field) later ≡ min (reaching (reach_in old field) later + times * adds context later field span) 2
    reaches =
        elim (field == 1) as (λ b. (field == 1) ≡ b
        → reaching (cond b new.of_data new.all) later ≡ min (reaching (cond b old.of_data old.all) later + times * adds context later field span) 2) [
          | true ↦ λ e.
              of_data
              ∙ ap (λ x. min (reaching old.of_data later + cond (nat_lt later x) d 0) 2) end_is
              ∙ ap (λ m. min (reaching old.of_data later + cond (nat_lt later (end_of span)) m 0) 2) (d_is ∙ ap (λ m. cond (is_data span.sort) m 0) n_is)
              ∙ ap (λ m. min (reaching old.of_data later + m) 2) (amount_is (is_data span.sort) (adds_data old.sort span.sort field sort of_sort e))
          | false ↦ λ e.
              all
              ∙ ap (λ x. min (reaching old.all later + cond (nat_lt later x) n 0) 2) end_is
              ∙ ap (λ m. min (reaching old.all later + cond (nat_lt later (end_of span)) m 0) 2) n_is
              ∙ ap (λ m. min (reaching old.all later + m) 2) (amount_is true (adds_other old.sort span.sort field sort of_sort e))
        ] refl

-- ---- what does not reach an address adds to no sector from it on

adds_unsorted : (n : SortName) (sort : SpanSort) (field : ℕ) → is_sort n sort ≡ false → is_field n field ≡ true → adds_to sort field ≡ false
adds_unsorted OwnedName (Owned d) field s f = absurd (cc)
adds_unsorted OwnedName Summed field s f = grind (arith, nat_tests)
adds_unsorted OwnedName (Shown t i o x l) field s f = grind (arith, nat_tests)
adds_unsorted SummedName (Owned true) field s f = grind (arith, nat_tests)
adds_unsorted SummedName (Owned false) field s f = grind (arith, nat_tests)
adds_unsorted SummedName Summed field s f = absurd (cc)
adds_unsorted SummedName (Shown t i o x l) field s f = grind (arith, nat_tests)
adds_unsorted ShownName (Owned true) field s f = grind (arith, nat_tests)
adds_unsorted ShownName (Owned false) field s f = grind (arith, nat_tests)
adds_unsorted ShownName Summed field s f = grind (arith, nat_tests)
adds_unsorted ShownName (Shown t i o x l) field s f = absurd (cc)

no_sector_by : (a b c : Bool) → (a ≡ true → b ≡ true → ⊥) → (a && (b && c)) ≡ false
no_sector_by true true c h = absurd (h refl refl)
no_sector_by true false c h = refl
no_sector_by false b c h = refl

no_sector : (span : Span) (later : ℕ) → (span.first ≤ later → later < end_of span → ⊥) → has_sector span later ≡ false
no_sector span later h = no_sector_by (nat_le span.first later) (nat_lt later (end_of span)) (span.first % 4096 == later % 4096) (λ a b.
    let x : span.first ≤ later = grind (arith, nat_tests) in
    let y : later < end_of span = grind (arith, nat_tests) in
    h x y)

module _ (context : Context) (sort : SortName) (address later field : ℕ) (of_sort : is_field sort field ≡ true) (up : address ≤ later) (span : Span) where
  none_by_sector : has_sector span later ≡ false → adds context later field span ≡ 0
  unfolding adds
  none_by_sector is = ap (λ b. cond (b && (counts context span span.sort && adds_to span.sort field)) 1 0) is

  never_and : (a b : Bool) → cond {A = ℕ} (a && (b && false)) 1 0 ≡ 0
  never_and true true = refl
  never_and true false = refl
  never_and false b = refl

  none_by_sort : is_sort sort span.sort ≡ false → adds context later field span ≡ 0
  unfolding adds
  none_by_sort is =
      ap (λ b. cond (has_sector span later && (counts context span span.sort && b)) 1 0) (adds_unsorted sort span.sort field is of_sort)
      ∙ never_and (has_sector span later) (counts context span span.sort)

  by_reach : (a b c : Bool) → is_sort sort span.sort ≡ a → nat_lt 0 span.sectors ≡ b → nat_lt address (end_of span) ≡ c → (a && (b && c)) ≡ false → adds context later field span ≡ 0
  by_reach false b c p q r e = none_by_sort p
  by_reach true false c p q r e = none_by_sector (no_sector span later (λ x y. let none : span.sectors ≡ 0 = grind (arith, nat_tests) in omega arith))
  by_reach true true false p q r e = none_by_sector (no_sector span later (λ x y. let low : end_of span ≤ address = grind (arith, nat_tests) in omega arith))
  by_reach true true true p q r e = absurd (cc)

  pub adds_none : is_reaching sort address span ≡ false → adds context later field span ≡ 0
  unfolding is_reaching
  adds_none e = by_reach (is_sort sort span.sort) (nat_lt 0 span.sectors) (nat_lt address (end_of span)) refl refl refl e

-- ---- walks

pub head_lower : (t : Table) (sort : SortName) (low address : ℕ) (head : Head) → low ≤ address → IsHead t sort address head → IsHead t sort low head
unfolding is_reaching
head_lower t sort low address Start up is = tt
head_lower t sort low address (At s n) up is =
    let ends : nat_lt address (end_of s) ≡ true = and_right (nat_lt 0 s.sectors) _ (and_right (is_sort sort s.sort) _ is.2) in
    let under : nat_lt low (end_of s) ≡ true = grind (arith, nat_tests) in
    (is.0, is.1, and_true _ _ (and_left _ _ is.2) (and_true _ _ (and_left _ _ (and_right (is_sort sort s.sort) _ is.2)) under))
head_lower t sort low address End up is = tt

head_times : (t : Table) (sort : SortName) (low : ℕ) (head : Head) → IsHead t sort low head → (h : Span) (n : ℕ) → head ≡ At h n → n ≡ t h
head_times t sort low head is h n e = (subst (IsHead t sort low) e is).1

capped : (a b r : ℕ) → r ≡ min a 2 → min (r + b) 2 ≡ min (a + b) 2
capped a b r is = omega arith

module _ (context : Context) (t : Table) (xs : List Span) (all : (span : Span) → times_of_span xs span ≡ t span) (low address : ℕ) (old : Walk) where
  -- a walk with the span that it stood at, and at the next
  pub walked_on : IsWalked context t xs low address old → low ≤ address → (s : Span) (n : ℕ) → old.head ≡ At s n → s.first ≤ address
      → (all' of_data' : Reach) → all'.near ≤ all'.far → of_data'.near ≤ of_data'.far → (head : Head)
      → ((field later : ℕ) → is_field old.sort field ≡ true → later % 4096 ≡ 0 → s.first ≤ later
      → reaching (cond (field == 1) of_data' all') later ≡ min (reaching (reach_in old field) later + n * adds context later field s) 2)
      → IsHead t old.sort address head → IsStep t old.sort address old.head head
      → IsWalked context t xs low address (record { sort = old.sort; head = head; all = all'; of_data = of_data' })
  walked_on walked up s n at begun all' of_data' order data_order head sums is step = record {
    order = order;
    data_order = data_order;
    head = head_lower t old.sort low address head up is;
    sums = λ field later of_sort at_sector high.
        sums field later of_sort at_sector (omega arith)
        ∙ capped (passed_sum (adds context later field) old.head xs) (n * adds context later field s) (reaching (reach_in old field) later) (walked.sums field later of_sort at_sector high)
        ∙ ap (λ m. min m 2) (sym (step_sum t xs all old.sort address old.head head step (head_times t old.sort low old.head walked.head) (adds context later field)
        (λ x e. adds_none context old.sort address later field of_sort high x e)
        ∙ ap (λ h. passed_sum (adds context later field) old.head xs + at_sum (adds context later field) h) at));
  }

due_by : (b : Bool) (h s : Span) (m n : ℕ) → cond {A = Option (Span × ℕ)} b (Some (h, m)) None ≡ Some (s, n) → (b ≡ true) × (h ≡ s) × (m ≡ n)
due_by true h s m n e =
    let pair : (h, m) ≡ (s, n) = some_is {A = Span × ℕ} (h, m) (s, n) e in
    (refl, ap (λ p. p.0) pair, ap (λ p. p.1) pair)
due_by false h s m n e = absurd (cc)

pub due_at : (address : ℕ) (head : Head) (s : Span) (n : ℕ) → due address head ≡ Some (s, n) → (head ≡ At s n) × (s.first ≤ address)
due_at address Start s n e = absurd (cc)
due_at address (At h m) s n e =
    let both : (nat_le h.first address ≡ true) × (h ≡ s) × (m ≡ n) = due_by (nat_le h.first address) h s m n e in
    let low : h.first ≤ address = let b : nat_le h.first address ≡ true = both.0 in grind (arith, nat_tests) in
    let p : h ≡ s = both.1 in
    let q : m ≡ n = both.2 in
    (λ i. At (p i) (q i), subst (λ x. x.first ≤ address) p low)
due_at address End s n e = absurd (cc)

passed_most_by : (b : Bool) → cond {A = ℕ} b 1 0 ≤ 1
passed_most_by true = omega arith
passed_most_by false = omega arith

passed_most : (head : Head) (xs : List Span) → passed_sum (λ x. 1) head xs ≤ sum_by (λ x. 1) xs
unfolding passed_sum
passed_most head xs = sum_le (λ x. cond (is_passed head x) 1 0) (λ x. 1) xs (λ x. passed_most_by (is_passed head x))

looked_one : (mid after : ℕ) → after ≡ counted mid → after ≤ mid + 1
looked_one mid after is = omega arith

module _ (context : Context) (t : Table) (xs : List Span) (all : (span : Span) → times_of_span xs span ≡ t span) (low address : ℕ) (up : low ≤ address) (begin old : Walk) (before mid after : ℕ)
    (passing : IsPassing context t xs low address begin old before mid) (s : Span) (n : ℕ) (due_is : due address old.head ≡ Some (s, n)) (head : Head) (step : IsStep t old.sort address old.head head) where
  stood : IsHead t old.sort low (At s n)
  stood = subst (IsHead t old.sort low) ((due_at address old.head s n due_is).0) passing.walked.head

  stands : 0 < t s
  stands = let some = stood.0 in let is = stood.1 in omega (arith, some, is)

  more_passed : (each : List Span) → 0 < times_of_span each s → (g : Span → ℕ) → passed_sum g old.head each + g s ≤ passed_sum g head each
  more_passed each has g = step_worth t each old.sort address old.head head step g s n ((due_at address old.head s n due_is).0) has

  pub fewer_left : sum_by (λ x. 1) xs - passed_sum (λ x. 1) head xs < sum_by (λ x. 1) xs - passed_sum (λ x. 1) old.head xs
  fewer_left =
      let is = all s in
      let there = stands in
      let more : passed_sum (λ x. 1) old.head xs + 1 ≤ passed_sum (λ x. 1) head xs = more_passed xs (omega (arith, is, there)) (λ x. 1) in
      let most : passed_sum (λ x. 1) head xs ≤ sum_by (λ x. 1) xs = passed_most head xs in
      omega arith

  pub sort_there : is_sort old.sort s.sort ≡ true
  unfolding is_reaching
  sort_there = and_left _ _ stood.2

  pub passing_on : (all' of_data' : Reach) → all'.near ≤ all'.far → of_data'.near ≤ of_data'.far
      → ((field later : ℕ) → is_field old.sort field ≡ true → later % 4096 ≡ 0 → s.first ≤ later
      → reaching (cond (field == 1) of_data' all') later ≡ min (reaching (reach_in old field) later + n * adds context later field s) 2)
      → IsHead t old.sort address head → IsBegun head → after ≡ counted mid
      → IsPassing context t xs low address begin (record { sort = old.sort; head = head; all = all'; of_data = of_data' }) before after
  passing_on all' of_data' order data_order sums is begun looked = record {
    walked = walked_on context t xs all low address old passing.walked up s n ((due_at address old.head s n due_is).0) ((due_at address old.head s n due_is).1) all' of_data' order data_order head sums is step;
    sort = passing.sort;
    begun = begun;
    looks = λ each has worth counts.
        let earlier : mid + passed_sum worth begin.head each ≤ before + passed_sum worth old.head each = passing.looks each has worth counts in
        let more : passed_sum worth old.head each + worth s ≤ passed_sum worth head each = more_passed each (has s stands) worth in
        let one : 1 ≤ worth s = counts s (subst (λ x. is_reaching x low s ≡ true) passing.sort stood.2) ((due_at address old.head s n due_is).1) in
        let few : after ≤ mid + 1 = looked_one mid after looked in
        omega arith;
  }

settled_begun : (address : ℕ) (head : Head) → is_settled address head ≡ true → IsBegun head
settled_begun address Start e = absurd (cc)
settled_begun address (At s n) e = tt
settled_begun address End e = tt

settled_head : (t : Table) (sort : SortName) (low address : ℕ) (head : Head) → is_settled address head ≡ true → IsHead t sort low head → IsHead t sort address head
unfolding is_reaching
settled_head t sort low address Start e is = tt
settled_head t sort low address (At s n) e is =
    (is.0, is.1, and_true _ _ (and_left _ _ is.2) (and_true _ _ (and_left _ _ (and_right (is_sort sort s.sort) _ is.2)) e))
settled_head t sort low address End e is = tt

last_false : (a b : Bool) → (a && (b && false)) ≡ false
last_false true true = refl
last_false true false = refl
last_false false b = refl

unreached : (sort : SortName) (address : ℕ) (s : Span) → nat_lt address (end_of s) ≡ false → is_reaching sort address s ≡ false
unfolding is_reaching
unreached sort address s e = ap (λ b. is_sort sort s.sort && (nat_lt 0 s.sectors && b)) e ∙ last_false (is_sort sort s.sort) (nat_lt 0 s.sectors)

none_there : (address : ℕ) (sort : SortName) (g : Span → ℕ) (head : Head) → is_settled address head ≡ false → ((x : Span) → is_reaching sort address x ≡ false → g x ≡ 0) → at_sum g head ≡ 0
none_there address sort g Start e none = refl
none_there address sort g (At s n) e none = let z : g s ≡ 0 = none s (unreached sort address s e) in let y : n * g s ≡ n * 0 = ap (λ m. n * m) z in omega arith
none_there address sort g End e none = refl

module _ (context : Context) (t : Table) (xs : List Span) (address : ℕ) (old : Walk) (low from : ℕ) (up : from ≤ address) (walked : IsWalked context t xs low from old) (before : ℕ) where
  pub begin_kept : is_settled address old.head ≡ true → IsBeginning context t xs address old old before before
  begin_kept e = record {
    walked = record {
      order = walked.order;
      data_order = walked.data_order;
      head = settled_head t old.sort low address old.head e walked.head;
      sums = λ field later of_sort at_sector high. walked.sums field later of_sort at_sector (omega arith);
    };
    sort = refl;
    begun = settled_begun address old.head e;
    looks = λ each worth. omega arith;
  }

  pub begin_on : ((span : Span) → times_of_span xs span ≡ t span) → is_settled address old.head ≡ false → (head : Head) → IsStep t old.sort address old.head head → IsHead t old.sort address head → IsBegun head
      → (after : ℕ) → after ≡ counted before
      → IsBeginning context t xs address old (record { sort = old.sort; head = head; all = old.all; of_data = old.of_data }) before after
  begin_on all e head step is begun after looked = record {
    walked = record {
      order = walked.order;
      data_order = walked.data_order;
      head = is;
      sums = λ field later of_sort at_sector high.
          let none : at_sum (adds context later field) old.head ≡ 0 =
          none_there address old.sort (adds context later field) old.head e (λ x r. adds_none context old.sort address later field of_sort high x r) in
          let more : passed_sum (adds context later field) head xs ≡ passed_sum (adds context later field) old.head xs + at_sum (adds context later field) old.head =
          step_sum t xs all old.sort address old.head head step (head_times t old.sort low old.head walked.head) (adds context later field)
          (λ x r. adds_none context old.sort address later field of_sort high x r) in
          let same : passed_sum (adds context later field) old.head xs ≡ passed_sum (adds context later field) head xs = omega arith in
          walked.sums field later of_sort at_sector (omega arith) ∙ ap (λ m. min m 2) same;
    };
    sort = refl;
    begun = begun;
    looks = λ each worth.
        let more : passed_sum worth old.head each ≤ passed_sum worth head each = step_kept t each old.sort address old.head head step worth in
        let few : after ≤ before + 1 = looked_one before after looked in
        omega arith;
  }
