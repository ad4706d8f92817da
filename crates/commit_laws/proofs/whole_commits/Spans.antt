-- Lists that have each span as often come to the same sums, and what a change of a list does to how often each span stands in it.
use Rattle.std.proofs.Common.{◌≡◌, ℕ, ◌+◌, ◌-◌, ◌<◌, Bool, true, false, cond, List, [], ◌∷◌, ◌++◌, refl, ap, sym, ◌∙◌, subst, inl, inr, arith}
use Rattle.std.specs.Prelude.{◌⊎◌}
use Rattle.std.specs.List.{Contains, sum_by}
use Rattle.std.specs.List.Sorted.{IsPermutation}
use Rattle.std.proofs.Math.Path.{fun_ext}
use Rattle.std.proofs.lemmas.List.Sorted.{sum_by-IsPermutation}
use Rattle.std.proofs.lemmas.List.Sums.{sum_by-append, sum_by-cons}
use Rattle.touched_accounts.proofs.Moved.{total_by, total_permuted}
use Rattle.accounts.specs.Broken.{is_broken}
use Rattle.accounts.specs.Context.{Context}
use Rattle.accounts.specs.Kinds.{sector}
use Rattle.accounts.specs.Sums.{added, total_of}
use Rattle.accounts.specs.declared.account.Account.{Account}
use Rattle.accounts.specs.declared.postings.Posting.{Posting}
use Rattle.accounts.proofs.Kept.{total_joined}
use Rattle.span_index.specs.declared.span.Span.{Span}
use Rattle.span_index.specs.Order.{is_same}
use Rattle.span_index.specs.Sectors.{adds, is_bad, sector_sum, times_of_span}
use Rattle.span_index.proofs.TableLaws.{same_is, same_itself}
use Rattle.change_records.proofs.Merge.{contains_none}
use Rattle.touched_accounts.specs.Sums.{PostTheSame}
use Rattle.commit_laws.specs.Steps.{ShowTheSame}
use Rattle.commit_laws.proofs.named_items.Alike.{contains_cases}

-- ---- how often a span stands in a list

pub times_cons : (y : Span) (ys : List Span) (x : Span) → times_of_span (y ∷ ys) x ≡ cond (is_same x y) 1 0 + times_of_span ys x
unfolding times_of_span
times_cons y ys x = sum_by-cons (λ z. cond (is_same x z) 1 0) y ys

none_there : (x : Span) → 0 < times_of_span [] x → ⊥
unfolding times_of_span
none_there x less = absurd (omega (arith, less))

there_first : (y : Span) (ys : List Span) → 0 < times_of_span (y ∷ ys) y
there_first y ys =
    let is : times_of_span (y ∷ ys) y ≡ 1 + times_of_span ys y = times_cons y ys y ∙ ap (λ b. cond b 1 0 + times_of_span ys y) (same_itself y) in
    omega arith

there_later : (y : Span) (ys : List Span) (x : Span) → 0 < times_of_span ys x → 0 < times_of_span (y ∷ ys) x
there_later y ys x h = let is = times_cons y ys x in omega (arith, is)

-- a span of a list stands in it
pub there : (xs : List Span) (x : Span) → Contains xs x → 0 < times_of_span xs x
there [] x has = absurd (contains_none x has)
there (y ∷ ys) x has = by (contains_cases y ys x has) (there ys x)
  where
    by : (y ≡ x) ⊎ Contains ys x → (Contains ys x → 0 < times_of_span ys x) → 0 < times_of_span (y ∷ ys) x
    by (inl here) later = subst (λ z. 0 < times_of_span (y ∷ ys) z) here (there_first y ys)
    by (inr more) later = there_later y ys x (later more)

-- ---- lists that have each span as often

-- a list without one span that stands in it
record Without (f : Span → ℕ) (x : Span) (ys : List Span) : Type 0 where
  pub rest : List Span
  pub times : (s : Span) → times_of_span ys s ≡ cond (is_same s x) 1 0 + times_of_span rest s
  pub sum : sum_by f ys ≡ f x + sum_by f rest

turned : (a b c n m k : ℕ) → n ≡ a + m → m ≡ b + c → k ≡ a + c → n ≡ b + k
turned a b c n m k first second third = omega (arith, first, second, third)

still_there : (a n m : ℕ) → n ≡ a + m → a ≡ 0 → 0 < n → 0 < m
still_there a n m is zero less = omega (arith, is, zero, less)

take_out : (f : Span → ℕ) (x : Span) (ys : List Span) → 0 < times_of_span ys x → Without f x ys
take_out f x [] h = absurd (none_there x h)
take_out f x (y ∷ ys) h = by (is_same x y) refl (take_out f x ys)
  where
    by : (b : Bool) → is_same x y ≡ b → (0 < times_of_span ys x → Without f x ys) → Without f x (y ∷ ys)
    by true e later =
        let here : y ≡ x = sym (same_is x y e) in
        record {
          rest = ys;
          times = λ s. times_cons y ys s ∙ ap (λ z. cond (is_same s z) 1 0 + times_of_span ys s) here;
          sum = sum_by-cons f y ys ∙ ap (λ z. f z + sum_by f ys) here;
        }
    by false e later =
        let w = later (still_there (cond (is_same x y) 1 0) (times_of_span (y ∷ ys) x) (times_of_span ys x) (times_cons y ys x) (ap (λ b. cond b 1 0) e) h) in
        record {
          rest = y ∷ w.rest;
          times = λ s.
              turned (cond (is_same s y) 1 0) (cond (is_same s x) 1 0) (times_of_span w.rest s) (times_of_span (y ∷ ys) s) (times_of_span ys s)
              (times_of_span (y ∷ w.rest) s) (times_cons y ys s) (w.times s) (times_cons y w.rest s);
          sum = turned (f y) (f x) (sum_by f w.rest) (sum_by f (y ∷ ys)) (sum_by f ys) (sum_by f (y ∷ w.rest)) (sum_by-cons f y ys) w.sum (sum_by-cons f y w.rest);
        }

cancelled : (a n m p q : ℕ) → p ≡ a + n → p ≡ q → q ≡ a + m → n ≡ m
cancelled a n m p q first same second = omega (arith, first, same, second)

pub same_sums : (f : Span → ℕ) (xs ys : List Span) → ((s : Span) → times_of_span xs s ≡ times_of_span ys s) → sum_by f xs ≡ sum_by f ys
same_sums f [] [] same = refl
same_sums f [] (y ∷ ys) same = absurd (none_there y (subst (λ n. 0 < n) (sym (same y)) (there_first y ys)))
same_sums f (x ∷ xs) ys same =
    let w : Without f x ys = take_out f x ys (subst (λ n. 0 < n) (same x) (there_first x xs)) in
    sum_by-cons f x xs
    ∙ ap (λ n. f x + n) (same_sums f xs w.rest (λ s.
    cancelled (cond (is_same s x) 1 0) (times_of_span xs s) (times_of_span w.rest s) (times_of_span (x ∷ xs) s) (times_of_span ys s)
    (times_cons x xs s) (same s) (w.times s)))
    ∙ sym w.sum

-- whether a sector is broken, by lists that have each span as often
pub same_bad : (context : Context) (xs ys : List Span) → ((s : Span) → times_of_span xs s ≡ times_of_span ys s)
    → (address : ℕ) → is_bad context xs address ≡ is_bad context ys address
unfolding is_bad sector_sum
same_bad context xs ys same address = ap (is_broken (sector address)) (fun_ext (λ field. same_sums (adds context address field) xs ys same))

-- ---- what changes

moved_by : (b a g c s : ℕ) → b ≡ g + s → a ≡ c + s → a ≡ (b - g) + c
moved_by b a g c s old new = omega (arith, old, new)

pub times_moved : (before after gone came : List Span) → ShowTheSame before after gone came → (s : Span)
    → times_of_span after s ≡ (times_of_span before s - times_of_span gone s) + times_of_span came s
unfolding times_of_span
times_moved before after gone came is s =
    let once : Span → ℕ = λ z. cond (is_same s z) 1 0 in
    moved_by (sum_by once before) (sum_by once after) (sum_by once gone) (sum_by once came) (sum_by once is.same)
    (sym (sum_by-IsPermutation once before (gone ++ is.same) is.old) ∙ sum_by-append once gone is.same)
    (sym (sum_by-IsPermutation once after (came ++ is.same) is.new) ∙ sum_by-append once came is.same)

pub total_moved : (before after gone came : List Posting) → PostTheSame before after gone came → (account : Account) (field : ℕ)
    → total_of after account field ≡ (total_of before account field - total_of gone account field) + total_of came account field
total_moved before after gone came is account field =
    moved_by (total_of before account field) (total_of after account field) (total_of gone account field) (total_of came account field)
    (total_of is.same account field)
    (total_permuted before (gone ++ is.same) account field is.old ∙ total_joined gone is.same account field)
    (total_permuted after (came ++ is.same) account field is.new ∙ total_joined came is.same account field)
