-- How many runs begin and end below an address.
use Rattle.std.proofs.Common.{◌≡◌, ℕ, zero, suc, ◌+◌, ◌-◌, ◌*◌, ◌≤◌, ◌%◌, ◌==◌, ◌&&◌, Bool, true, false, cond, refl, ap, sym, subst, arith}
use Rattle.std.specs.Prelude.{Option, Some, None, IsSome, nat_lt, nat_le, Result, Ok, Err, OnOk, OnErr}
use Rattle.std.specs.Map.{lookup}
use Rattle.std.specs.Ordering.{nat_cmp}
use Rattle.std.specs.BTreeMap.{BTreeMap, get, is_at, IsEmpty}
use Rattle.std.proofs.Math.Path.{fun_ext}
use Rattle.std.proofs.lemmas.Bool.{eqb-true, eqb-false, eq-eqb}
use Rattle.std.proofs.lemmas.Bool.Decides.{nat_tests}
use Rattle.verdict.specs.Items.{is_multiple}
use Rattle.sector_runs.specs.declared.edge.Edges.{Edges}
use Rattle.sector_runs.specs.declared.run.SectorRun.{SectorRun}
use Rattle.sector_runs.specs.Kept.{AreSound, Entries, IsMarked, below, begins, ends, number_at}
use Rattle.sector_runs.specs.Edges.{sums_of}
use Rattle.sector_runs.specs.declared.kept.Sectors.{Sectors}
use Rattle.sector_runs.specs.Runs.{IsFit, amount_of, counts_in, no_sectors, with_run}

-- a number that counts below n where its address is
abbrev pub past : ℕ → ℕ → ℕ → ℕ
past at n number = cond (nat_lt at n) number 0

past_none : (at number : ℕ) → past at 0 number ≡ 0
past_none at number = grind (arith, nat_tests)

past_here : (at number : ℕ) → (past at (suc at) number ≡ number) × (past at at number ≡ 0)
past_here at number = (grind (arith, nat_tests), grind (arith, nat_tests))

past_other : (at n number : ℕ) → (n == at) ≡ false → past at (suc n) number ≡ past at n number
past_other at n number other = let apart = eqb-false n at other in grind (arith, nat_tests)

-- one address more, the one that changed or another
marked_more : (old new : Entries) (at field n : ℕ) (more : Edges) (b : Bool) → (n == at) ≡ b → IsMarked old new at more
    → below (begins field) new n + (below (ends field) old n + past at n (ends field more)) ≡ below (ends field) new n + (below (begins field) old n + past at n (begins field more))
    → below (begins field) new (suc n) + (below (ends field) old (suc n) + past at (suc n) (ends field more)) ≡ below (ends field) new (suc n) + (below (begins field) old (suc n) + past at (suc n) (begins field more))
unfolding below
marked_more old new at field n more true is marked before =
    let same : n ≡ at = eqb-true n at is in
    let here : number_at (begins field) (new n) + (number_at (ends field) (old n) + ends field more) ≡ number_at (ends field) (new n) + (number_at (begins field) (old n) + begins field more) =
    subst (λ k. number_at (begins field) (new k) + (number_at (ends field) (old k) + ends field more) ≡ number_at (ends field) (new k) + (number_at (begins field) (old k) + begins field more)) (sym same) (marked.here field) in
    let e : (past at (suc n) (ends field more) ≡ ends field more) × (past at n (ends field more) ≡ 0) =
    subst (λ k. (past at (suc k) (ends field more) ≡ ends field more) × (past at k (ends field more) ≡ 0)) (sym same) (past_here at (ends field more)) in
    let b : (past at (suc n) (begins field more) ≡ begins field more) × (past at n (begins field more) ≡ 0) =
    subst (λ k. (past at (suc k) (begins field more) ≡ begins field more) × (past at k (begins field more) ≡ 0)) (sym same) (past_here at (begins field more)) in
    omega (arith, here, before, e.0, e.1, b.0, b.1)
marked_more old new at field n more false is marked before =
    let same = marked.others n is in
    let e = past_other at n (ends field more) is in
    let b = past_other at n (begins field more) is in
    let begin : number_at (begins field) (new n) ≡ number_at (begins field) (old n) = ap (number_at (begins field)) same in
    let end : number_at (ends field) (new n) ≡ number_at (ends field) (old n) = ap (number_at (ends field)) same in
    omega (arith, before, begin, end, e, b)

-- what is marked at an address counts from there on
pub marked_below : (old new : Entries) (at field n : ℕ) (more : Edges) → IsMarked old new at more
    → below (begins field) new n + (below (ends field) old n + past at n (ends field more)) ≡ below (ends field) new n + (below (begins field) old n + past at n (begins field more))
unfolding below
marked_below old new at field zero more marked = let e = past_none at (ends field more) in let b = past_none at (begins field more) in omega (arith, e, b)
marked_below old new at field (suc n) more marked = marked_more old new at field n more (n == at) refl marked (marked_below old new at field n more marked)

-- no number of a number that is none
past_zero : (at n number : ℕ) → number ≡ 0 → past at n number ≡ 0
past_zero at n number is = grind (arith, nat_tests)

past_later : (first end n number : ℕ) → first ≤ end → past end n number ≤ past first n number
past_later first end n number more = grind (arith, nat_tests)

-- ---- no entries

none_below : (number : Edges → ℕ) (entry : Entries) → ((k : ℕ) → entry k ≡ None) → (n : ℕ) → below number entry n ≡ 0
unfolding below
none_below number entry none zero = refl
none_below number entry none (suc n) =
    let here : number_at number (entry n) ≡ 0 = ap (number_at number) (none n) in
    let before = none_below number entry none n in
    omega (arith, here, before)

no_entry : (m : BTreeMap ℕ Edges) → IsEmpty m → (k : ℕ) → get nat_cmp m k ≡ None
no_entry m is k = ap (lookup (is_at (nat_cmp k))) is

not_some : (o : Option Edges) {A : Type 0} → o ≡ None → IsSome o → A
not_some None is some = absurd (cc some)
not_some (Some e) is some = absurd (cc is)

pub empty_sound : (m : BTreeMap ℕ Edges) → IsEmpty m → AreSound (get nat_cmp m)
empty_sound m is = record {
  at_sectors = λ k some. not_some (get nat_cmp m k) (no_entry m is k) some;
  begun = λ field n.
      let e = none_below (ends field) (get nat_cmp m) (no_entry m is) n in
      let b = none_below (begins field) (get nat_cmp m) (no_entry m is) n in
      omega (arith, e, b);
}

no_sum : (b : Bool) (x y : ℕ) → x ≡ 0 → cond b (x - y) 0 ≡ 0
no_sum true x y is = omega (arith, is)
no_sum false x y is = refl

pub empty_sums : (s : Sectors) → IsEmpty s.edges → sums_of s ≡ no_sectors
unfolding sums_of
empty_sums s is = fun_ext (λ a. fun_ext (λ field.
    no_sum (is_multiple a) _ _ (none_below (begins field) (get nat_cmp s.edges) (no_entry s.edges is) (suc a))))

-- ---- a run more

sector_case : (old new : Entries) (at address : ℕ) (more : Edges) (b : Bool) → (address == at) ≡ b → IsMarked old new at more → is_multiple at ≡ true → AreSound old → IsSome (new address) → is_multiple address ≡ true
sector_case old new at address more true is marked begins sound some = subst (λ k. is_multiple k ≡ true) (sym (eqb-true address at is)) begins
sector_case old new at address more false is marked begins sound some = sound.at_sectors address (subst IsSome (marked.others address is) some)

-- a run begins, and no end is marked
pub begun_sound : (old new : Entries) (at : ℕ) (more : Edges) → AreSound old → is_multiple at ≡ true → ((field : ℕ) → ends field more ≡ 0) → IsMarked old new at more → AreSound new
begun_sound old new at more sound begin none marked = record {
  at_sectors = λ address some. sector_case old new at address more (address == at) refl marked begin sound some;
  begun = λ field n.
      let both = marked_below old new at field n more marked in
      let zero_more = past_zero at n (ends field more) (none field) in
      let was = sound.begun field n in
      omega (arith, both, zero_more, was);
}

pub same_sound : (old new : Entries) → AreSound old → ((k : ℕ) → new k ≡ old k) → AreSound new
same_sound old new sound same = subst AreSound (sym (fun_ext same)) sound

-- the edges of a run, its beginning and its end
pub record AreEdgesOf (run : SectorRun) (begin end : Edges) : Type 0 where
  pub begin_begins : (field : ℕ) → begins field begin ≡ cond (counts_in run.sort field) 1 0
  pub begin_ends : (field : ℕ) → ends field begin ≡ cond (counts_in run.sort field) 0 0
  pub end_begins : (field : ℕ) → begins field end ≡ cond (counts_in run.sort field) 0 0
  pub end_ends : (field : ℕ) → ends field end ≡ cond (counts_in run.sort field) 1 0

pub no_case : (b : Bool) (n : ℕ) → n ≡ cond b 0 0 → n ≡ 0
no_case true n is = is
no_case false n is = is

-- the beginning of a run and then its end are marked
both_below : (old mid new : Entries) (run : SectorRun) (begin end : Edges) (field n : ℕ) → AreEdgesOf run begin end → IsMarked old mid run.first begin → IsMarked mid new (run.first + run.count * 4096) end
    → below (begins field) new n + (below (ends field) old n + past (run.first + run.count * 4096) n (cond (counts_in run.sort field) 1 0))
    ≡ below (ends field) new n + (below (begins field) old n + past run.first n (cond (counts_in run.sort field) 1 0))
both_below old mid new run begin end field n edges first last =
    let one = marked_below old mid run.first field n begin first in
    let two = marked_below mid new (run.first + run.count * 4096) field n end last in
    let a : past run.first n (begins field begin) ≡ past run.first n (cond (counts_in run.sort field) 1 0) = ap (past run.first n) (edges.begin_begins field) in
    let b = past_zero run.first n (ends field begin) (no_case (counts_in run.sort field) (ends field begin) (edges.begin_ends field)) in
    let c : past (run.first + run.count * 4096) n (ends field end) ≡ past (run.first + run.count * 4096) n (cond (counts_in run.sort field) 1 0) = ap (past (run.first + run.count * 4096) n) (edges.end_ends field) in
    let d = past_zero (run.first + run.count * 4096) n (begins field end) (no_case (counts_in run.sort field) (begins field end) (edges.end_begins field)) in
    omega (arith, one, two, a, b, c, d)

end_multiple : (first count : ℕ) → is_multiple first ≡ true → is_multiple (first + count * 4096) ≡ true
end_multiple first count is =
    let whole : first % 4096 ≡ 0 = eqb-true (first % 4096) 0 is in
    let e : (first + count * 4096) % 4096 ≡ 0 = omega (arith, whole) in
    eq-eqb ((first + count * 4096) % 4096) 0 e

pub ended_sound : (old mid new : Entries) (run : SectorRun) (begin end : Edges) → AreSound old → AreSound mid → IsFit run → AreEdgesOf run begin end → IsMarked old mid run.first begin → IsMarked mid new (run.first + run.count * 4096) end → AreSound new
ended_sound old mid new run begin end sound between fit edges first last = record {
  at_sectors = λ address some. sector_case mid new (run.first + run.count * 4096) address end (address == run.first + run.count * 4096) refl last (end_multiple run.first run.count fit.0) between some;
  begun = λ field n.
      let both = both_below old mid new run begin end field n edges first last in
      let was = sound.begun field n in
      let later : run.first ≤ run.first + run.count * 4096 = omega arith in
      let more = past_later run.first (run.first + run.count * 4096) n (cond (counts_in run.sort field) 1 0) later in
      omega (arith, both, was, more);
}

-- a run has a sector where its beginning is past and its end is not
amount_case : (first count address : ℕ) (c : Bool)
    → cond (nat_lt first (suc address)) (cond c 1 0) 0 ≡ cond ((nat_le first address && nat_lt address (first + 4096 * count)) && c) 1 0 + cond (nat_lt (first + count * 4096) (suc address)) (cond c 1 0) 0
amount_case first count address true = grind (arith, nat_tests)
amount_case first count address false = grind (arith, nat_tests)

sum_case : (run : SectorRun) (address field : ℕ) (b : Bool) (B E B0 E0 : ℕ) → is_multiple address ≡ b → E0 ≤ B0
    → B + (E0 + past (run.first + run.count * 4096) (suc address) (cond (counts_in run.sort field) 1 0)) ≡ E + (B0 + past run.first (suc address) (cond (counts_in run.sort field) 1 0))
    → cond b (B - E) 0 ≡ cond b (B0 - E0) 0 + cond ((b && (nat_le run.first address && nat_lt address (run.first + 4096 * run.count))) && counts_in run.sort field) 1 0
sum_case run address field true B E B0 E0 is was both =
    let amount = amount_case run.first run.count address (counts_in run.sort field) in
    omega (arith, was, both, amount)
sum_case run address field false B E B0 E0 is was both = refl

pub more_sums : (s t : Sectors) (mid : Entries) (run : SectorRun) (begin end : Edges) → AreEdgesOf run begin end → IsMarked (get nat_cmp s.edges) mid run.first begin
    → IsMarked mid (get nat_cmp t.edges) (run.first + run.count * 4096) end → sums_of t ≡ with_run (sums_of s) run
unfolding sums_of amount_of
more_sums s t mid run begin end edges first last = fun_ext (λ a. fun_ext (λ field.
    sum_case run a field (is_multiple a) _ _ _ _ refl (s.sound.begun field (suc a)) (both_below (get nat_cmp s.edges) mid (get nat_cmp t.edges) run begin end field (suc a) edges first last)))

-- ---- what holds where a call is done, and where it failed

pub on_done : {T E : Type 0} {A B : Type 0} (r : Result T E) → OnOk r A → (A → B) → OnOk r B
on_done (Ok x) is f = f is
on_done (Err e) is f = tt

pub done_or_not : {T E : Type 0} {A B C : Type 0} (r : Result T E) → OnOk r A → OnErr r B → (A → C) → (B → C) → C
done_or_not (Ok x) done failed f g = f done
done_or_not (Err e) done failed f g = g failed
