-- The trail of a walk: of each block that it comes to, what was expected of it and its own records. It serves proofs alone.
use Rattle.std.proofs.Common.{◌≡◌, ℕ, zero, suc, List, [], ◌∷◌, ◌++◌, refl, ap, sym, ◌∙◌}
use Rattle.std.specs.Prelude.{Result, Ok, Err}
use Rattle.std.specs.List.{flat_map}
use Rattle.verdict.specs.Rules.{and_then}
use Rattle.verdict.specs.declared.finding.Finding.{Finding}
use Rattle.super_reader.specs.declared.Super.{Super}
use Rattle.node_reader.specs.Layout.{pointers_of}
use Rattle.node_reader.specs.Stored.{Stored, block_in}
use Rattle.node_reader.specs.declared.expect.Expect.{Expect}
use Rattle.records.specs.Seen.{Seen}
use Rattle.records.specs.Walk.{Records, behind, below, block_and, children_of, each, own_records, then_records, walk_of}
use Rattle.records.specs.WalkLaw.{children_in, visited_from, visited}
use Rattle.tree_laws.specs.Skips.{own_of}
use Rattle.tree_laws.specs.SkipLaw.{WalkIsOwn}

-- a block that a walk comes to
pub record Visit : Type 0 where
  pub e : Expect
  pub own : List Seen

abbrev pub Trail : Type 0
Trail = Result (List Visit) Finding

-- the trail behind some blocks
unfoldable pub after : List Visit → Trail → Trail
after visits (Err finding) = Err finding
after visits (Ok others) = Ok (visits ++ others)

-- one trail behind another
abbrev pub then_trail : Trail → Trail → Trail
then_trail first later = and_then first (λ visits. after visits later)

-- the trails of several
abbrev pub trails : {A : Type 0} → (A → Trail) → List A → Trail
trails of [] = Ok []
trails of (one ∷ more) = then_trail (of one) (trails of more)

-- the block that is expected, before what is below it
abbrev pub trail_with : (Expect → List ℕ → Trail) → Super → Expect → List ℕ → Trail
trail_with below sup e bytes = and_then (own_records sup e bytes) (λ own. after (record { e = e; own = own } ∷ []) (below e bytes))

abbrev pub trail_and : (Expect → List ℕ → Trail) → Super → Stored → Expect → Trail
trail_and below sup stored e = and_then (block_in stored sup.fsid e) (trail_with below sup e)

-- what is below a block on a level
unfoldable pub trail_below : ℕ → Super → Stored → Expect → List ℕ → Trail
trail_below zero sup stored e bytes = Ok []
trail_below (suc level) sup stored e bytes = trails (trail_and (trail_below level sup stored) sup stored) (children_of level e (pointers_of bytes))

abbrev pub trail_of : Super → Stored → Expect → Trail
trail_of sup stored e = trail_and (trail_below e.level sup stored) sup stored e

-- the records of blocks
abbrev pub all_own : List Visit → List Seen
all_own visits = flat_map (λ (v : Visit). v.own) visits

-- these are the blocks that are expected, with their own records
abbrev pub Matches : Super → Stored → List Visit → List Expect → Type 0
Matches sup stored [] [] = Unit {0}
Matches sup stored [] (e ∷ es) = ⊥
Matches sup stored (v ∷ visits) [] = ⊥
Matches sup stored (v ∷ visits) (e ∷ es) = ((v.e ≡ e) × (own_of sup stored e ≡ Ok v.own)) × Matches sup stored visits es

-- a trail is that of a walk, which comes to these blocks
abbrev pub Tells : Super → Stored → Trail → Records → List Expect → Type 0
Tells sup stored (Err finding) walk es = (walk ≡ Err finding) × (each (own_of sup stored) es ≡ Err finding)
Tells sup stored (Ok visits) walk es = (walk ≡ Ok (all_own visits)) × Matches sup stored visits es

behind_behind : (a b : List Seen) (later : Records) → behind (a ++ b) later ≡ behind a (behind b later)
unfolding behind
behind_behind a b (Err finding) = refl
behind_behind a b (Ok others) = ap Ok (append_is a b others)
  where
    append_is : (a b c : List Seen) → (a ++ b) ++ c ≡ a ++ (b ++ c)
    append_is [] b c = refl
    append_is (x ∷ a) b c = ap (λ more. x ∷ more) (append_is a b c)

behind_none : (later : Records) → behind [] later ≡ later
unfolding behind
behind_none (Err finding) = refl
behind_none (Ok others) = refl

then_then : (a b c : Records) → then_records (then_records a b) c ≡ then_records a (then_records b c)
unfolding behind
then_then (Err finding) b c = refl
then_then (Ok records) (Err finding) c = refl
then_then (Ok records) (Ok others) c = behind_behind records others c

-- the records of two lists
pub each_append : (of : Expect → Records) (first later : List Expect) → each of (first ++ later) ≡ then_records (each of first) (each of later)
each_append of [] later = sym (behind_none (each of later))
each_append of (e ∷ first) later = rw (each_append of first later) (sym (then_then (of e) (each of first) (each of later)))

pub all_own_append : (first later : List Visit) → all_own (first ++ later) ≡ all_own first ++ all_own later
all_own_append [] later = refl
all_own_append (v ∷ first) later = rw (all_own_append first later) (append_is v.own (all_own first) (all_own later))
  where
    append_is : (a b c : List Seen) → a ++ (b ++ c) ≡ (a ++ b) ++ c
    append_is [] b c = refl
    append_is (x ∷ a) b c = ap (λ more. x ∷ more) (append_is a b c)

matches_append : (sup : Super) (stored : Stored) (vs ws : List Visit) (es fs : List Expect) → Matches sup stored vs es → Matches sup stored ws fs → Matches sup stored (vs ++ ws) (es ++ fs)
matches_append sup stored [] ws [] fs a b = b
matches_append sup stored [] ws (e ∷ es) fs a b = elim a [ ]
matches_append sup stored (v ∷ vs) ws [] fs a b = elim a [ ]
matches_append sup stored (v ∷ vs) ws (e ∷ es) fs a b = (a.0, matches_append sup stored vs ws es fs a.1 b)

-- the own records of blocks that are as expected
matches_own : (sup : Super) (stored : Stored) (vs : List Visit) (es : List Expect) → Matches sup stored vs es → each (own_of sup stored) es ≡ Ok (all_own vs)
unfolding behind
matches_own sup stored [] [] m = refl
matches_own sup stored [] (e ∷ es) m = elim m [ ]
matches_own sup stored (v ∷ vs) [] m = elim m [ ]
matches_own sup stored (v ∷ vs) (e ∷ es) m = rw (m.0.1, matches_own sup stored vs es m.1) refl

-- two trails one after the other
tells_then : (sup : Super) (stored : Stored) (a b : Trail) (x y : Records) (es fs : List Expect) → Tells sup stored a x es → Tells sup stored b y fs
    → Tells sup stored (then_trail a b) (then_records x y) (es ++ fs)
unfolding after behind
tells_then sup stored (Err finding) b x y es fs first later =
    (rw first.0 refl, each_append (own_of sup stored) es fs ∙ rw first.1 refl)
tells_then sup stored (Ok vs) (Err finding) x y es fs first later =
    (rw (first.0, later.0) refl, each_append (own_of sup stored) es fs ∙ rw (matches_own sup stored vs es first.1, later.1) refl)
tells_then sup stored (Ok vs) (Ok ws) x y es fs first later =
    (rw (first.0, later.0) (ap Ok (sym (all_own_append vs ws))), matches_append sup stored vs ws es fs first.1 later.1)

tells_each : (sup : Super) (stored : Stored) (trail : Expect → Trail) (walk : Expect → Records) (list : Expect → List Expect)
    → ((e : Expect) → Tells sup stored (trail e) (walk e) (list e)) → (es : List Expect) → Tells sup stored (trails trail es) (each walk es) (flat_map list es)
tells_each sup stored trail walk list tells [] = (refl, tt)
tells_each sup stored trail walk list tells (e ∷ es) =
    tells_then sup stored (trail e) (trails trail es) (walk e) (each walk es) (list e) (flat_map list es) (tells e) (tells_each sup stored trail walk list tells es)

-- a block before what is below it
tells_own : (sup : Super) (stored : Stored) (e : Expect) (own : List Seen) (rest : Trail) (walk : Records) (es : List Expect) → own_of sup stored e ≡ Ok own
    → Tells sup stored rest walk es → Tells sup stored (after (record { e = e; own = own } ∷ []) rest) (behind own walk) (e ∷ es)
unfolding after behind
tells_own sup stored e own (Err finding) walk es is tells = (rw (tells.0) refl, rw (is, tells.1) refl)
tells_own sup stored e own (Ok vs) walk es is tells = (rw (tells.0) refl, ((refl, is), tells.1))

tells_block : (sup : Super) (stored : Stored) (e : Expect) (trail : List ℕ → Trail) (walk : List ℕ → Records) (list : Result (List ℕ) Finding → List Expect)
    → ((bytes : List ℕ) → Tells sup stored (trail bytes) (walk bytes) (list (Ok bytes))) → ((finding : Finding) → list (Err finding) ≡ [])
    → Tells sup stored (and_then (block_in stored sup.fsid e) (trail_with (λ v. trail) sup e))
    (and_then (block_in stored sup.fsid e) (λ bytes. then_records (own_records sup e bytes) (walk bytes))) (e ∷ list (block_in stored sup.fsid e))
tells_block sup stored e trail walk list tells none = by (block_in stored sup.fsid e) refl
  where
    by_own : (bytes : List ℕ) (own : Records) → own_of sup stored e ≡ own
        → Tells sup stored (and_then own (λ o. after (record { e = e; own = o } ∷ []) (trail bytes))) (then_records own (walk bytes)) (e ∷ list (Ok bytes))
    by_own bytes (Err finding) is = (refl, rw is refl)
    by_own bytes (Ok own) is = tells_own sup stored e own (trail bytes) (walk bytes) (list (Ok bytes)) is (tells bytes)

    by : (block : Result (List ℕ) Finding) → block_in stored sup.fsid e ≡ block
        → Tells sup stored (and_then block (trail_with (λ v. trail) sup e)) (and_then block (λ bytes. then_records (own_records sup e bytes) (walk bytes))) (e ∷ list block)
    by (Err finding) is = (refl, rw is refl)
    by (Ok bytes) is = by_own bytes (own_records sup e bytes) (rw is refl)

-- the trail from a block on a level
tells_at : (level : ℕ) (sup : Super) (stored : Stored) (e : Expect)
    → Tells sup stored (trail_and (trail_below level sup stored) sup stored e) (block_and (below level sup stored) sup stored e) (visited_from level sup stored e)
unfolding trail_below below visited_from
tells_at zero sup stored e = tells_block sup stored e (λ bytes. Ok []) (λ bytes. Ok []) (λ block. []) (λ bytes. (refl, tt)) (λ finding. refl)
tells_at (suc level) sup stored e =
    tells_block sup stored e
    (λ bytes. trails (trail_and (trail_below level sup stored) sup stored) (children_of level e (pointers_of bytes)))
    (λ bytes. each (block_and (below level sup stored) sup stored) (children_of level e (pointers_of bytes)))
    (λ block. flat_map (visited_from level sup stored) (children_in level e block))
    (λ bytes. tells_each sup stored (trail_and (trail_below level sup stored) sup stored) (block_and (below level sup stored) sup stored) (visited_from level sup stored) (tells_at level sup stored) (children_of level e (pointers_of bytes)))
    (λ finding. refl)

-- the trail of a walk is that of the walk
pub tells : (sup : Super) (stored : Stored) (e : Expect) → Tells sup stored (trail_of sup stored e) (walk_of sup stored e) (visited sup stored e)
tells sup stored e = tells_at e.level sup stored e

-- a walk is the own records of the blocks that it comes to
pub walk_is_own : WalkIsOwn
walk_is_own sup stored e = by (trail_of sup stored e) (tells sup stored e)
  where
    by : (trail : Trail) → Tells sup stored trail (walk_of sup stored e) (visited sup stored e) → walk_of sup stored e ≡ each (own_of sup stored) (visited sup stored e)
    by (Err finding) told = told.0 ∙ sym told.1
    by (Ok visits) told = told.0 ∙ sym (matches_own sup stored visits (visited sup stored e) told.1)
