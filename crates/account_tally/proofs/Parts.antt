-- Sums in three parts, a tally and a list.
use Rattle.std.proofs.Common.{◌≡◌, ℕ, ◌+◌, Bool, true, false, List, [], ◌++◌, refl, ap, sym, ◌∙◌, subst, arith}
use Rattle.std.proofs.Math.Path.{fun_ext}
use Rattle.accounts.specs.declared.account.Account.{Account}
use Rattle.accounts.specs.declared.postings.Posting.{Posting}
use Rattle.accounts.specs.declared.tally.Tally.{Tally}
use Rattle.accounts.specs.Apart.{AddsUp, IsSettled}
use Rattle.accounts.specs.Broken.{is_broken}
use Rattle.accounts.specs.Sums.{total_of}
use Rattle.accounts.specs.Tally.{Sums, kept, no_sums, sums_in, with_postings}
use Rattle.accounts.proofs.Apart.{adds_beside, adds_the_same, adds_then, more_alike}
use Rattle.accounts.proofs.First.{broken_kept}
use Rattle.accounts.proofs.Kept.{kept_more, kept_nothing, total_joined}
use Rattle.account_tally.specs.Apart.{three}
use Rattle.account_tally.specs.Kept.{held_sums}

-- nothing is held yet
pub none_held : (rest apart : Sums) (waiting : List Posting) → rest ≡ no_sums → ((a : Account) (n : ℕ) → apart a n ≡ 0) → waiting ≡ []
    → held_sums rest apart waiting ≡ no_sums
unfolding held_sums total_of
none_held rest apart waiting none nothing empty = fun_ext (λ a.
    ap (kept a.kind) (fun_ext (λ n. (let
    r : rest a n ≡ 0 = ap (λ (s : Sums). s a n) none in let
    w : total_of waiting a n ≡ 0 = ap (λ l. total_of l a n) empty in let
    z = nothing a n in let
    e : rest a n + (apart a n + total_of waiting a n) ≡ 0 = omega (arith, r, w, z) in
    e)))
    ∙ kept_nothing a.kind)

pub three_none : (extents names inodes : Sums) → ((a : Account) (n : ℕ) → extents a n ≡ 0) → ((a : Account) (n : ℕ) → names a n ≡ 0)
    → ((a : Account) (n : ℕ) → inodes a n ≡ 0) → (a : Account) (n : ℕ) → three extents names inodes a n ≡ 0
three_none extents names inodes first second third a n = let x = first a n in let y = second a n in let z = third a n in omega (arith, x, y, z)

-- what is added apart and waits is held
pub held_more : (rest before after : Sums) (waiting more given : List Posting) → AddsUp before after waiting more given
    → held_sums rest after more ≡ with_postings (held_sums rest before waiting) given
unfolding held_sums with_postings
held_more rest before after waiting more given adds = fun_ext (λ a.
    ap (kept a.kind) (fun_ext (λ n. (let
    e : rest a n + (after a n + total_of more a n) ≡ (after a n + total_of more a n) + rest a n = omega arith in
    e)))
    ∙ more_alike a.kind (λ n. after a n + total_of more a n) (λ n. (before a n + total_of waiting a n) + total_of given a n) (rest a) (adds a)
    ∙ ap (kept a.kind) (fun_ext (λ n. (let
    e : ((before a n + total_of waiting a n) + total_of given a n) + rest a n
    ≡ (rest a n + (before a n + total_of waiting a n)) + total_of given a n = omega arith in
    e)))
    ∙ sym (kept_more a.kind (λ n. rest a n + (before a n + total_of waiting a n)) (total_of given a)))

-- what waited is added to the tally
pub held_added : (rest next apart : Sums) (waiting left : List Posting) → next ≡ with_postings rest waiting → left ≡ []
    → held_sums next apart left ≡ held_sums rest apart waiting
unfolding held_sums with_postings total_of
held_added rest next apart waiting left is none = fun_ext (λ a.
    ap (λ (s : Sums). kept a.kind (λ n. s a n + (apart a n + total_of left a n))) is
    ∙ kept_more a.kind (λ n. rest a n + total_of waiting a n) (λ n. apart a n + total_of left a n)
    ∙ ap (kept a.kind) (fun_ext (λ n. (let
    z : total_of left a n ≡ 0 = ap (λ l. total_of l a n) none in let
    e : (rest a n + total_of waiting a n) + (apart a n + total_of left a n) ≡ rest a n + (apart a n + total_of waiting a n) = omega (arith, z) in
    e))))

-- ---- one record

-- what one of the three adds, the others beside it
pub adds_extents : (e f n i : Sums) (before after given : List Posting) → AddsUp e f before after given → AddsUp (three e n i) (three f n i) before after given
adds_extents e f n i before after given adds = adds_beside e f (λ a k. n a k + i a k) before after given adds

pub adds_both : (e n m i j : Sums) (before after given : List Posting) → AddsUp (λ a k. n a k + i a k) (λ a k. m a k + j a k) before after given
    → AddsUp (three e n i) (three e m j) before after given
adds_both e n m i j before after given adds =
    let turned : (s t : Sums) → ◌≡◌ {A = Sums} (λ a k. (s a k + t a k) + e a k) (three e s t) =
    (λ s t. fun_ext (λ a. fun_ext (λ k. (let w : (s a k + t a k) + e a k ≡ e a k + (s a k + t a k) = omega arith in w)))) in
    subst (λ (x : Sums). AddsUp x (three e m j) before after given) (turned n i)
    (subst (λ (x : Sums). AddsUp (λ a k. (n a k + i a k) + e a k) x before after given) (turned m j)
    (adds_beside (λ a k. n a k + i a k) (λ a k. m a k + j a k) e before after given adds))

pub adds_inodes : (e n i j : Sums) (before after given : List Posting) → AddsUp i j before after given → AddsUp (three e n i) (three e n j) before after given
adds_inodes e n i j before after given adds =
    let turned : (s : Sums) → ◌≡◌ {A = Sums} (λ a k. s a k + (e a k + n a k)) (three e n s) =
    (λ s. fun_ext (λ a. fun_ext (λ k. (let w : s a k + (e a k + n a k) ≡ e a k + (n a k + s a k) = omega arith in w)))) in
    subst (λ (x : Sums). AddsUp x (three e n j) before after given) (turned i)
    (subst (λ (x : Sums). AddsUp (λ a k. i a k + (e a k + n a k)) x before after given) (turned j) (adds_beside i j (λ a k. e a k + n a k) before after given adds))

-- four families, one after the other; what entries say of inodes comes with the names
pub adds_record : (s0 s1 s2 s3 s4 : Sums) (w0 w1 w2 w3 w4 extents names led space own inodes : List Posting)
    → AddsUp s0 s1 w0 w1 extents → AddsUp s1 s2 w1 w2 (names ++ led) → AddsUp s2 s3 w2 w3 space → AddsUp s3 s4 w3 w4 own
    → ((a : Account) (k : ℕ) → total_of own a k + total_of led a k ≡ total_of inodes a k)
    → AddsUp s0 s4 w0 w4 (extents ++ (inodes ++ (names ++ space)))
adds_record s0 s1 s2 s3 s4 w0 w1 w2 w3 w4 extents names led space own inodes first second third last whole =
    adds_the_same s0 s4 w0 w4 (((extents ++ (names ++ led)) ++ space) ++ own) (extents ++ (inodes ++ (names ++ space)))
    (adds_then s0 s3 s4 w0 w3 w4 ((extents ++ (names ++ led)) ++ space) own
    (adds_then s0 s2 s3 w0 w2 w3 (extents ++ (names ++ led)) space
    (adds_then s0 s1 s2 w0 w1 w2 extents (names ++ led) first second)
    third)
    last)
    (λ a k. (let
    x = total_joined ((extents ++ (names ++ led)) ++ space) own a k in let
    y = total_joined (extents ++ (names ++ led)) space a k in let
    z = total_joined extents (names ++ led) a k in let
    t = total_joined names led a k in let
    u = total_joined extents (inodes ++ (names ++ space)) a k in let
    v = total_joined inodes (names ++ space) a k in let
    w = total_joined names space a k in
    omega (arith, x, y, z, t, u, v, w, whole a k)))

-- ---- all are brought together

-- what is broken rests on what is kept
broken_alike : (a : Account) (f g : ℕ → ℕ) → kept a.kind f ≡ kept a.kind g → is_broken a f ≡ is_broken a g
broken_alike a f g same = sym (broken_kept a f) ∙ ap (is_broken a) same ∙ broken_kept a g

-- the names are moved whole, then the extents and the inodes but for what breaks no rule
module _ (e n i : Sums) (is_e is_i : ℕ → Bool) (t0 t1 t2 t3 : Tally)
    (first : (a : Account) → sums_in t1 a ≡ kept a.kind (λ k. sums_in t0 a k + n a k)) (second : IsSettled e is_e t1 t2) (third : IsSettled i is_i t2 t3)
    (no_e : (a : Account) → is_e a.kind ≡ false → (k : ℕ) → e a k ≡ 0)
    (no_i : (a : Account) → is_i a.kind ≡ false → (k : ℕ) → i a k ≡ 0) where
  abbrev pub Whole : Account → Type 0
  Whole a = is_broken a (sums_in t3 a) ≡ is_broken a (λ k. sums_in t0 a k + three e n i a k)

  -- with more apart, the tally with the names is as the tally and the names
  with_names : (a : Account) (x : ℕ → ℕ) → is_broken a (λ k. sums_in t1 a k + x k) ≡ is_broken a (λ k. (sums_in t0 a k + n a k) + x k)
  with_names a x =
      ap (λ (s : ℕ → ℕ). is_broken a (λ k. s k + x k)) (first a)
      ∙ broken_alike a (λ k. kept a.kind (λ m. sums_in t0 a m + n a m) k + x k) (λ k. (sums_in t0 a k + n a k) + x k) (kept_more a.kind (λ m. sums_in t0 a m + n a m) x)

  -- of an inode
  third_case : (a : Account) → is_e a.kind ≡ false → Whole a
  third_case a other =
      third.broken a
      ∙ ap (λ (s : ℕ → ℕ). is_broken a (λ k. s k + i a k)) (second.others a other)
      ∙ with_names a (i a)
      ∙ ap (is_broken a) (fun_ext (λ k. (let p = no_e a other k in let w : (sums_in t0 a k + n a k) + i a k ≡ sums_in t0 a k + three e n i a k = omega (arith, p) in w)))

  -- of another
  second_case : (a : Account) → is_i a.kind ≡ false → Whole a
  second_case a other =
      ap (is_broken a) (third.others a other)
      ∙ second.broken a
      ∙ with_names a (e a)
      ∙ ap (is_broken a) (fun_ext (λ k. (let p = no_i a other k in let w : (sums_in t0 a k + n a k) + e a k ≡ sums_in t0 a k + three e n i a k = omega (arith, p) in w)))

  -- no kind is of both
  pub brought : ((k : ℕ) → is_i k ≡ true → is_e k ≡ false) → (a : Account) → Whole a
  brought one a =
      elim (is_i a.kind) as (λ b. is_i a.kind ≡ b → Whole a) [ true ↦ λ is. third_case a (one a.kind is) | false ↦ λ no. second_case a no ] refl

-- what is broken by a tally and by what is kept apart is broken by what is held
pub held_broken : (rest apart : Sums) (a : Account) → is_broken a (λ k. rest a k + apart a k) ≡ is_broken a (held_sums rest apart [] a)
unfolding held_sums total_of
held_broken rest apart a =
    ap (is_broken a) (fun_ext (λ k. (let w : rest a k + apart a k ≡ rest a k + (apart a k + 0) = omega arith in w)))
    ∙ sym (broken_kept a (λ k. rest a k + (apart a k + 0)))
