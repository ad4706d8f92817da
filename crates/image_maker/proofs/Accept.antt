-- Tables of rules of which none fails.
use Rattle.std.proofs.Common.{◌≡◌, ℕ, zero, suc, ◌+◌, ◌-◌, ◌<◌, ◌≤◌, List, [], ◌∷◌, ◌++◌, length, Bool, true, false, not, refl, ap, ◌∙◌, arith}
use Rattle.std.proofs.lemmas.Grind.{common_steps}
use Rattle.std.proofs.lemmas.Slice.Eq.{bytes_eq-Decides}
use Rattle.std.specs.Prelude.{Option, Some, None, is_some, ◌==◌, ◌&&◌, bytes_eq, bit_and}
use Rattle.verdict.proofs.Truth.{or_none, and_false}
use Rattle.verdict.proofs.Numbers.{not_differs, not_below, itself}
use Rattle.verdict.specs.Rules.{TableRow, first_failing}
use Rattle.verdict.specs.OnDisk.{key_below, key_same}
use Rattle.verdict.specs.declared.key.Key.{Key}
use Rattle.verdict.proofs.Tables.{first_failing_joined}
use Rattle.node_reader.specs.Places.{least_from}
use Rattle.node_reader.specs.Layout.{count_of, entry_size, entry_key}
use Rattle.node_reader.specs.Faults.{header_rules, count_rules, key_rules, room_of, needs_entry, disordered_at, differs_from, reaches}
use Rattle.node_reader.specs.declared.expect.Expect.{Expect}
use Rattle.node_reader.proofs.Steps.{least_of_some, disordered_is}
use Rattle.image_maker.specs.Accepted.{expect_of, key_at, StartsAt, EndsBelow, IsBetween}
use Rattle.image_maker.specs.declared.block.BlockHeader.{BlockHeader}
use Rattle.image_maker.proofs.Header.{HeaderSays}

-- no rule of a table fails
abbrev pub NoneFails : List TableRow → Type 0
NoneFails [] = Unit {0}
NoneFails (row ∷ rows) = (row.fails ≡ false) × NoneFails rows

pub clear : (rows : List TableRow) → NoneFails rows → first_failing rows ≡ None
clear [] kept = refl
clear (row ∷ rows) kept = rw kept.0 (clear rows kept.1)

pub both_clear : (first second : List TableRow) → first_failing first ≡ None → first_failing second ≡ None → first_failing (first ++ second) ≡ None
both_clear first second a b = first_failing_joined first second ∙ rw a b

pub none_some : {A : Type 0} (found : Option A) → found ≡ None → is_some found ≡ false
none_some found is = rw is refl

none_left : (test : ℕ → Bool) (at : ℕ) → least_from test at zero ≡ None
unfolding least_from
none_left test at = refl

-- where a test holds at no place, none is found
pub none_at_all : (test : ℕ → Bool) (at n : ℕ) → ((place : ℕ) → at ≤ place → place < at + n → test place ≡ false) → least_from test at n ≡ None
none_at_all test at zero each = none_left test at
none_at_all test at (suc n) each =
    let here : test at ≡ false = each at (omega arith) (omega arith) in
    least_of_some test at n ∙ rw here (none_at_all test (suc at) n (λ place low high. each place (omega arith) (omega arith)))

same_bytes : (a b : List ℕ) → a ≡ b → not (bytes_eq a b) ≡ false
same_bytes a b is = ap not ((bytes_eq-Decides a b).1 is)

unset : (flags : ℕ) → flags ≡ 1 → (bit_and flags 2 == 2) ≡ false
unset flags is = rw is refl

pub header_clear : (h : BlockHeader) (low high : Option Key) (parent : ℕ) (count : ℕ) (body bytes : List ℕ) → HeaderSays h count body bytes →
    first_failing (header_rules bytes h.fsid (expect_of h low high parent)) ≡ None
unfolding header_rules
header_clear h low high parent count body bytes says =
    clear (header_rules bytes h.fsid (expect_of h low high parent))
    (not_differs _ _ says.sum, (same_bytes _ _ says.fsid, (not_differs _ _ says.address, (unset _ says.flags, (not_differs _ _ says.owner, (not_differs _ _ says.generation, (not_differs _ _ says.level, tt)))))))

pub not_zero : (n : ℕ) → 0 < n → (n == 0) ≡ false
not_zero n some = grind (arith, common_steps)

some_or_none : (n : ℕ) (needs : Bool) → (needs ≡ true → 0 < n) → (n == 0 && needs) ≡ false
some_or_none n true some = rw (not_zero n (some refl)) refl
some_or_none n false some = and_false (n == 0)

pub count_clear : (bytes : List ℕ) (e : Expect) → count_of bytes ≤ room_of bytes e.level → (needs_entry e ≡ true → 0 < count_of bytes) →
    first_failing (count_rules bytes e) ≡ None
unfolding count_rules
count_clear bytes e fits some =
    clear (count_rules bytes e)
    (or_none _ _ (not_below (room_of bytes e.level) (count_of bytes) fits) (some_or_none (count_of bytes) (needs_entry e) some), tt)

same_key : (a b : Key) → b ≡ a → not (key_same a b) ≡ false
same_key a b is = rw (is, itself a.objectid, itself a.kind, itself a.offset) refl

first_is : (low : Option Key) (keys : List Key) (key : Key) → StartsAt low keys → (0 < length keys → key ≡ key_at keys 0) → differs_from low key ≡ false
first_is None keys key starts is = refl
first_is (Some low) keys key starts is = same_key low key (is starts.0 ∙ starts.1)

last_is : (high : Option Key) (keys : List Key) (key : Key) → EndsBelow high keys → 0 < length keys → key ≡ key_at keys (length keys - 1) → reaches high key ≡ false
last_is None keys key ends some is = refl
last_is (Some high) keys key ends some is = ap not (ap (λ k. key_below k high) is ∙ ends some)

last_or_none : (n : ℕ) (reach : Bool) → (0 < n → reach ≡ false) → (not (n == 0) && reach) ≡ false
last_or_none zero reach some = refl
last_or_none (suc n) reach some = rw (some (omega arith)) (and_false (not (suc n == 0)))

in_order : (bytes : List ℕ) (size : ℕ) (keys : List Key) (place : ℕ) → entry_key bytes size (place - 1) ≡ key_at keys (place - 1) → entry_key bytes size place ≡ key_at keys place →
    key_below (key_at keys (place - 1)) (key_at keys place) ≡ true → disordered_at bytes size place ≡ false
in_order bytes size keys place before here below = disordered_is bytes size place ∙ ap (λ k. not (key_below k (entry_key bytes size place))) before ∙ ap (λ k. not (key_below (key_at keys (place - 1)) k)) here ∙ ap not below

pub key_clear : (h : BlockHeader) (low high : Option Key) (parent : ℕ) (keys : List Key) (bytes : List ℕ) → IsBetween low high keys → count_of bytes ≡ length keys →
    ((place : ℕ) → place < length keys → entry_key bytes (entry_size h.level) place ≡ key_at keys place) →
    first_failing (key_rules bytes (expect_of h low high parent)) ≡ None
unfolding key_rules
key_clear h low high parent keys bytes between count each =
    let size : ℕ = entry_size h.level in
    let first : differs_from low (entry_key bytes size 0) ≡ false = first_is low keys (entry_key bytes size 0) between.first (λ some. each 0 some) in
    let order : least_from (disordered_at bytes size) 1 (count_of bytes - 1) ≡ None =
    none_at_all (disordered_at bytes size) 1 (count_of bytes - 1) (λ place above below.
    let next : place - 1 + 1 ≡ place = omega arith in
    let up : key_below (key_at keys (place - 1)) (key_at keys (place - 1 + 1)) ≡ true = between.ascending (place - 1) (omega (arith, count)) in
    in_order bytes size keys place (each (place - 1) (omega (arith, count))) (each place (omega (arith, count))) (rw next at up)) in
    let ends : 0 < count_of bytes → reaches high (entry_key bytes size (count_of bytes - 1)) ≡ false =
    λ some. last_is high keys (entry_key bytes size (count_of bytes - 1)) between.last (omega (arith, count)) (each (count_of bytes - 1) (omega (arith, count)) ∙ ap (λ n. key_at keys (n - 1)) count) in
    clear (key_rules bytes (expect_of h low high parent))
    (first, (none_some _ order, (last_or_none (count_of bytes) (reaches high (entry_key bytes size (count_of bytes - 1))) ends, tt)))
