-- The account of a sector, by how many of the spans that walks have passed reach past it.
use Rattle.std.proofs.Common.{◌≡◌, ℕ, ◌<◌, ◌≤◌, ◌%◌, Bool, true, false, cond, ◌&&◌, List, refl, sym, ap, ◌∙◌, arith}
use Rattle.std.specs.Prelude.{◌==◌, min, nat_le, nat_lt}
use Rattle.std.proofs.lemmas.Bool.Decides.{nat_tests}
use Rattle.accounts.specs.Context.{Context}
use Rattle.span_index.specs.declared.cursor.Head.{Head}
use Rattle.span_index.specs.declared.cursor.Head.TheVariants.{Start, At, End}
use Rattle.span_index.specs.declared.cursor.Walk.{Walk}
use Rattle.span_index.specs.declared.span.Span.{Span}
use Rattle.span_index.specs.Order.{is_below}
use Rattle.span_index.specs.Reach.{reaching}
use Rattle.span_index.specs.Sectors.{adds, counts, adds_to, sector_sum}
use Rattle.span_index.specs.Spans.{Table, end_of}
use Rattle.span_index.specs.Sweep.{IsBegun, is_passed, passed_sum}
use Rattle.span_index.specs.Walks.{IsBeyond, IsWalked, is_field, reach_in}
use Rattle.span_index.proofs.SumLaws.{sum_cong}
use Rattle.accounts.specs.Kinds.{gives, sector_keeps}
use Rattle.verdict.proofs.Numbers.{less_first}

-- ---- the rule on a sector needs no more of a sum than none, one, or more

some_tests : Bool → Bool → Bool → Bool → Bool → Bool
some_tests p q r s t = p && (q && (gives r s && gives t r))

capped_le : (a : ℕ) → nat_le (min a 2) 1 ≡ nat_le a 1
capped_le a = elim (nat_le a 1) as (λ b. nat_le a 1 ≡ b → nat_le (min a 2) 1 ≡ b) [
  | true ↦ λ e. let h : a ≤ 1 = grind (arith, nat_tests) in let m : min a 2 ≤ 1 = omega arith in grind (arith, nat_tests)
  | false ↦ λ e. let h : 1 < a = grind (arith, nat_tests) in let m : 1 < min a 2 = omega arith in grind (arith, nat_tests)
] refl

capped_one : (a : ℕ) → (min a 2 == 1) ≡ (a == 1)
capped_one a = elim (a == 1) as (λ b. (a == 1) ≡ b → (min a 2 == 1) ≡ b) [
  | true ↦ λ e. let h : a ≡ 1 = grind (arith, nat_tests) in let m : min a 2 ≡ 1 = omega arith in grind (arith, nat_tests)
  | false ↦ λ e. grind (arith, nat_tests)
] refl

capped_some : (a : ℕ) → nat_lt 0 (min a 2) ≡ nat_lt 0 a
capped_some a = elim (nat_lt 0 a) as (λ b. nat_lt 0 a ≡ b → nat_lt 0 (min a 2) ≡ b) [
  | true ↦ λ e. let h : 0 < a = grind (arith, nat_tests) in let m : 0 < min a 2 = omega arith in grind (arith, nat_tests)
  | false ↦ λ e. let h : a ≡ 0 = grind (arith, nat_tests) in let m : min a 2 ≡ 0 = omega arith in grind (arith, nat_tests)
] refl

pub capped_keeps : (f g : ℕ → ℕ) → g 0 ≡ min (f 0) 2 → g 1 ≡ min (f 1) 2 → g 2 ≡ min (f 2) 2 → g 3 ≡ min (f 3) 2 → sector_keeps g ≡ sector_keeps f
unfolding some_tests
capped_keeps f g a b c d =
    let p : nat_le (g 0) 1 ≡ nat_le (f 0) 1 = ap (λ x. nat_le x 1) a ∙ capped_le (f 0) in
    let q : nat_le (g 2) 1 ≡ nat_le (f 2) 1 = ap (λ x. nat_le x 1) c ∙ capped_le (f 2) in
    let r : (g 2 == 1) ≡ (f 2 == 1) = ap (λ x. x == 1) c ∙ capped_one (f 2) in
    let s : (g 1 == 1) ≡ (f 1 == 1) = ap (λ x. x == 1) b ∙ capped_one (f 1) in
    let t : nat_lt 0 (g 3) ≡ nat_lt 0 (f 3) = ap (λ x. nat_lt 0 x) d ∙ capped_some (f 3) in
    λ i. some_tests (p i) (q i) (r i) (s i) (t i)

-- ---- a walk that stands beyond an address has passed all that has the sectors before where it stands

sooner_below : (x h : Span) → x.first < h.first → is_below x h ≡ true
unfolding is_below
sooner_below x h less = less_first x.first h.first _ less

no_sector_at : (context : Context) (later field : ℕ) (span : Span) → later < span.first → adds context later field span ≡ 0
unfolding adds
no_sector_at context later field span h =
    let out : nat_le span.first later ≡ false = grind (arith, nat_tests) in
    ap (λ b. cond ((b && (nat_lt later (end_of span) && span.first % 4096 == later % 4096)) && (counts context span span.sort && adds_to span.sort field)) 1 0) out

passed_or : (context : Context) (bound later field : ℕ) (head : Head) (x : Span) → IsBegun head → IsBeyond bound head → later < bound → cond (is_passed head x) (adds context later field x) 0 ≡ adds context later field x
passed_or context bound later field Start x begun beyond up = absurd begun
passed_or context bound later field (At h n) x begun beyond up =
    elim (is_below x h) as (λ b. is_below x h ≡ b → cond b (adds context later field x) 0 ≡ adds context later field x) [
      | true ↦ λ e. refl
      | false ↦ λ e. sym (no_sector_at context later field x (
          elim (nat_lt x.first h.first) as (λ b. nat_lt x.first h.first ≡ b → later < x.first) [
            | true ↦ λ l. absurd (let less : x.first < h.first = grind (arith, nat_tests) in let yes = sooner_below x h less in cc (yes, e))
            | false ↦ λ l. let most : h.first ≤ x.first = grind (arith, nat_tests) in omega arith
          ] refl))
    ] refl
passed_or context bound later field End x begun beyond up = refl

-- what reaches past a sector is what adds to the sum of it, counted up to two
pub reach_is : (context : Context) (t : Table) (xs : List Span) (low address bound later field : ℕ) (walk : Walk) → IsWalked context t xs low address walk → IsBegun walk.head → IsBeyond bound walk.head
    → is_field walk.sort field ≡ true → later % 4096 ≡ 0 → address ≤ later → later < bound → reaching (reach_in walk field) later ≡ min (sector_sum context xs later field) 2
unfolding sector_sum passed_sum
reach_is context t xs low address bound later field walk walked begun beyond of_sort at_sector up under =
    walked.sums field later of_sort at_sector up
    ∙ ap (λ n. min n 2)
    (sum_cong (λ x. cond (is_passed walk.head x) (adds context later field x) 0) (adds context later field) xs (λ x k. passed_or context bound later field walk.head x begun beyond under))
