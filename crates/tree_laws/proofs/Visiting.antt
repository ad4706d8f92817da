-- What holds of the blocks that a walk comes to, by its trail.
use Rattle.std.proofs.Common.{◌≡◌, ℕ, Bool, true, false, ◌||◌, List, [], ◌∷◌, ◌++◌, ◌⊎◌, inl, inr, refl, subst}
use Rattle.std.specs.Prelude.{Ok, Err}
use Rattle.std.specs.List.{AllByRecursion, list_any}
use Rattle.std.specs.Result.{IsOk}
use Rattle.verdict.specs.declared.finding.Finding.{Finding}
use Rattle.super_reader.specs.declared.Super.{Super}
use Rattle.node_reader.specs.Stored.{Stored}
use Rattle.node_reader.specs.declared.expect.Expect.{Expect}
use Rattle.records.specs.Walk.{Records, walk_of}
use Rattle.records.specs.WalkLaw.{visited}
use Rattle.tree_laws.specs.Keeping.{Comes, OneOf, comes_to}
use Rattle.tree_laws.proofs.Trails.{Matches, Tells, Trail, Visit, after, tells, then_trail, trail_of}

-- this holds of each block
abbrev pub Each : (Expect → Type 0) → List Visit → Type 0
Each P visits = AllByRecursion (λ v. P v.e) visits

-- a trail has no finding, and this holds of each block of it
abbrev pub Visits : (Expect → Type 0) → Trail → Type 0
Visits P (Err finding) = ⊥
Visits P (Ok visits) = Each P visits

-- whether a test passes at a block
abbrev pub any_block : (Expect → Bool) → List Visit → Bool
any_block test visits = list_any (λ v. test v.e) visits

abbrev pub visits_any : (Expect → Bool) → Trail → Bool
visits_any test (Err finding) = false
visits_any test (Ok visits) = any_block test visits

-- this holds of one block
abbrev pub OneBlock : (Expect → Type 0) → List Visit → Type 0
OneBlock P [] = ⊥
OneBlock P (one ∷ visits) = P one.e ⊎ OneBlock P visits

abbrev pub VisitsOne : (Expect → Type 0) → Trail → Type 0
VisitsOne P (Err finding) = ⊥
VisitsOne P (Ok visits) = OneBlock P visits

-- it holds of two lists where it holds of both
each_append : (P : Expect → Type 0) (visits others : List Visit) → Each P visits → Each P others → Each P (visits ++ others)
each_append P [] others first later = later
each_append P (one ∷ visits) others first later = (first.0, each_append P visits others first.1 later)

each_first : (P : Expect → Type 0) (visits others : List Visit) → Each P (visits ++ others) → Each P visits
each_first P [] others all = tt
each_first P (one ∷ visits) others all = (all.0, each_first P visits others all.1)

each_later : (P : Expect → Type 0) (visits others : List Visit) → Each P (visits ++ others) → Each P others
each_later P [] others all = all
each_later P (one ∷ visits) others all = each_later P visits others all.1

-- the same, of a trail
pub visits_after : (P : Expect → Type 0) (visits : List Visit) (later : Trail) → Each P visits → Visits P later → Visits P (after visits later)
unfolding after
visits_after P visits (Err finding) first later = later
visits_after P visits (Ok others) first later = each_append P visits others first later

pub visits_first : (P : Expect → Type 0) (visits : List Visit) (later : Trail) → Visits P (after visits later) → Each P visits
unfolding after
visits_first P visits (Err finding) all = elim all [ ]
visits_first P visits (Ok others) all = each_first P visits others all

pub visits_later : (P : Expect → Type 0) (visits : List Visit) (later : Trail) → Visits P (after visits later) → Visits P later
unfolding after
visits_later P visits (Err finding) all = all
visits_later P visits (Ok others) all = each_later P visits others all

-- the same, of two trails one after the other
pub visits_then_first : (P : Expect → Type 0) (first later : Trail) → Visits P (then_trail first later) → Visits P first
visits_then_first P (Err finding) later all = all
visits_then_first P (Ok visits) later all = visits_first P visits later all

pub visits_then_later : (P : Expect → Type 0) (first later : Trail) → Visits P (then_trail first later) → Visits P later
visits_then_later P (Err finding) later all = elim all [ ]
visits_then_later P (Ok visits) later all = visits_later P visits later all

pub visits_then : (P : Expect → Type 0) (first later : Trail) → Visits P first → Visits P later → Visits P (then_trail first later)
visits_then P (Err finding) later all more = all
visits_then P (Ok visits) later all more = visits_after P visits later all more

-- what follows from what holds of each block holds of each
each_map : (P Q : Expect → Type 0) (visits : List Visit) → ((v : Expect) → P v → Q v) → Each P visits → Each Q visits
each_map P Q [] f all = tt
each_map P Q (one ∷ visits) f all = (f one.e all.0, each_map P Q visits f all.1)

pub visits_map : (P Q : Expect → Type 0) (trail : Trail) → ((v : Expect) → P v → Q v) → Visits P trail → Visits Q trail
visits_map P Q (Err finding) f all = all
visits_map P Q (Ok visits) f all = each_map P Q visits f all

-- two that hold of each block hold together
each_both : (P Q : Expect → Type 0) (visits : List Visit) → Each P visits → Each Q visits → Each (λ v. P v × Q v) visits
each_both P Q [] all more = tt
each_both P Q (one ∷ visits) all more = ((all.0, more.0), each_both P Q visits all.1 more.1)

pub visits_both : (P Q : Expect → Type 0) (trail : Trail) → Visits P trail → Visits Q trail → Visits (λ v. P v × Q v) trail
visits_both P Q (Err finding) all more = all
visits_both P Q (Ok visits) all more = each_both P Q visits all more

-- what holds of each block for each number holds for all of them
each_all : (P : ℕ → Expect → Type 0) (visits : List Visit) → ((n : ℕ) → Each (P n) visits) → Each (λ v. (n : ℕ) → P n v) visits
each_all P [] all = tt
each_all P (one ∷ visits) all = ((λ n. (all n).0), each_all P visits (λ n. (all n).1))

pub visits_all : (P : ℕ → Expect → Type 0) (trail : Trail) → ((n : ℕ) → Visits (P n) trail) → Visits (λ v. (n : ℕ) → P n v) trail
visits_all P (Err finding) all = all 0
visits_all P (Ok visits) all = each_all P visits all

-- of one block what holds of each holds too
one_of : (P Q : Expect → Type 0) (visits : List Visit) → Each P visits → OneBlock Q visits → (v : Expect) × P v × Q v
one_of P Q [] all one = elim one [ ]
one_of P Q (first ∷ visits) all (inl here) = (first.e, all.0, here)
one_of P Q (first ∷ visits) all (inr later) = one_of P Q visits all.1 later

pub visits_one : (P Q : Expect → Type 0) (trail : Trail) → Visits P trail → VisitsOne Q trail → (v : Expect) × P v × Q v
visits_one P Q (Err finding) all one = elim all [ ]
visits_one P Q (Ok visits) all one = one_of P Q visits all one

-- where no block passes a test, each fails it
each_fails : (test : Expect → Bool) (visits : List Visit) → any_block test visits ≡ false → Each (λ v. test v ≡ false) visits
each_fails test [] none = tt
each_fails test (one ∷ visits) none = (by_first (test one.e) none, each_fails test visits (by_later (test one.e) none))
  where
    by_first : (a : Bool) → (a || any_block test visits) ≡ false → a ≡ false
    by_first true is = absurd (cc)
    by_first false is = refl

    by_later : (a : Bool) → (a || any_block test visits) ≡ false → any_block test visits ≡ false
    by_later true is = absurd (cc)
    by_later false is = is

pub visits_fail : (P : Expect → Type 0) (test : Expect → Bool) (trail : Trail) → Visits P trail → visits_any test trail ≡ false → Visits (λ v. test v ≡ false) trail
visits_fail P test (Err finding) all none = all
visits_fail P test (Ok visits) all none = each_fails test visits none

-- where each block fails a test, none passes it
each_pass : (test : Expect → Bool) (visits : List Visit) → Each (λ v. test v ≡ false) visits → any_block test visits ≡ false
each_pass test [] all = refl
each_pass test (one ∷ visits) all = rw all.0 (each_pass test visits all.1)

pub visits_pass : (test : Expect → Bool) (trail : Trail) → Visits (λ v. test v ≡ false) trail → visits_any test trail ≡ false
visits_pass test (Err finding) all = refl
visits_pass test (Ok visits) all = each_pass test visits all

-- the blocks of a trail are those that the walk comes to
each_from : (sup : Super) (stored : Stored) (P : Expect → Type 0) (visits : List Visit) (es : List Expect) → Matches sup stored visits es → AllByRecursion P es → Each P visits
each_from sup stored P [] [] m all = tt
each_from sup stored P [] (e ∷ es) m all = elim m [ ]
each_from sup stored P (v ∷ visits) [] m all = elim m [ ]
each_from sup stored P (v ∷ visits) (e ∷ es) m all = (rw m.0.0 all.0, each_from sup stored P visits es m.1 all.1)

one_from : (sup : Super) (stored : Stored) (P : Expect → Type 0) (visits : List Visit) (es : List Expect) → Matches sup stored visits es → OneOf P es → OneBlock P visits
one_from sup stored P [] [] m one = one
one_from sup stored P [] (e ∷ es) m one = elim m [ ]
one_from sup stored P (v ∷ visits) [] m one = elim m [ ]
one_from sup stored P (v ∷ visits) (e ∷ es) m (inl here) = inl (rw m.0.0 here)
one_from sup stored P (v ∷ visits) (e ∷ es) m (inr later) = inr (one_from sup stored P visits es m.1 later)

any_from : (sup : Super) (stored : Stored) (test : Expect → Bool) (visits : List Visit) (es : List Expect) → Matches sup stored visits es → list_any test es ≡ any_block test visits
any_from sup stored test [] [] m = refl
any_from sup stored test [] (e ∷ es) m = elim m [ ]
any_from sup stored test (v ∷ visits) [] m = elim m [ ]
any_from sup stored test (v ∷ visits) (e ∷ es) m = rw (m.0.0, any_from sup stored test visits es m.1) refl

pub each_to : (sup : Super) (stored : Stored) (P : Expect → Type 0) (visits : List Visit) (es : List Expect) → Matches sup stored visits es → Each P visits → AllByRecursion P es
each_to sup stored P [] [] m all = tt
each_to sup stored P [] (e ∷ es) m all = elim m [ ]
each_to sup stored P (v ∷ visits) [] m all = elim m [ ]
each_to sup stored P (v ∷ visits) (e ∷ es) m all = (subst P m.0.0 all.0, each_to sup stored P visits es m.1 all.1)

pub comes_from : (P : Expect → Type 0) (sup : Super) (stored : Stored) (e : Expect) → Visits P (trail_of sup stored e) → Comes P sup stored e
comes_from P sup stored e all = by (trail_of sup stored e) (tells sup stored e) all
  where
    by : (trail : Trail) → Tells sup stored trail (walk_of sup stored e) (visited sup stored e) → Visits P trail → Comes P sup stored e
    by (Err finding) t all = elim all [ ]
    by (Ok visits) t all = record { fine = rw (t.0) refl; each = each_to sup stored P visits (visited sup stored e) t.1 all }

pub visits_from : (P : Expect → Type 0) (sup : Super) (stored : Stored) (e : Expect) → Comes P sup stored e → Visits P (trail_of sup stored e)
visits_from P sup stored e comes = by (trail_of sup stored e) (tells sup stored e)
  where
    never : (walk : Records) (finding : Finding) → IsOk walk → walk ≡ Err finding → ⊥
    never (Ok records) finding fine is = absurd (cc)
    never (Err other) finding fine is = absurd (cc)

    by : (trail : Trail) → Tells sup stored trail (walk_of sup stored e) (visited sup stored e) → Visits P trail
    by (Err finding) t = never (walk_of sup stored e) finding comes.fine t.0
    by (Ok visits) t = each_from sup stored P visits (visited sup stored e) t.1 comes.each

pub visits_one_from : (P Q : Expect → Type 0) (sup : Super) (stored : Stored) (e : Expect) → Visits Q (trail_of sup stored e) → OneOf P (visited sup stored e) → VisitsOne P (trail_of sup stored e)
visits_one_from P Q sup stored e all one = by (trail_of sup stored e) (tells sup stored e) all
  where
    by : (trail : Trail) → Tells sup stored trail (walk_of sup stored e) (visited sup stored e) → Visits Q trail → VisitsOne P trail
    by (Err finding) t all = all
    by (Ok visits) t all = one_from sup stored P visits (visited sup stored e) t.1 one

pub visits_any_from : (P : Expect → Type 0) (test : ℕ → Bool) (sup : Super) (stored : Stored) (e : Expect) → Visits P (trail_of sup stored e)
    → comes_to test sup stored e ≡ visits_any (λ w. test w.address) (trail_of sup stored e)
visits_any_from P test sup stored e all = by (trail_of sup stored e) (tells sup stored e) all
  where
    by : (trail : Trail) → Tells sup stored trail (walk_of sup stored e) (visited sup stored e) → Visits P trail → comes_to test sup stored e ≡ visits_any (λ w. test w.address) trail
    by (Err finding) t all = elim all [ ]
    by (Ok visits) t all = any_from sup stored (λ w. test w.address) visits (visited sup stored e) t.1
