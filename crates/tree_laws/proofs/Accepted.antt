-- Blocks at which a walk has no finding.
use Rattle.std.proofs.Common.{◌≡◌, ℕ, zero, suc, ◌+◌, ◌-◌, ◌==◌, Bool, true, false, not, ◌&&◌, ◌||◌, List, [], ◌∷◌, refl, ap, sym, subst, ◌∙◌, arith}
use Rattle.std.specs.Prelude.{Option, Some, None, is_some, Result, Ok, Err, nat_lt, if◌then◌else◌}
use Rattle.std.proofs.lemmas.Bool.Decides.{nat_tests}
use Rattle.verdict.proofs.Truth.{absorbs_left as absorbs, and_parts}
use Rattle.verdict.specs.OnDisk.{key_below, key_same}
use Rattle.verdict.specs.Rules.{TableRow, and_then, finding_or, first_failing}
use Rattle.verdict.specs.declared.finding.Finding.{Finding}
use Rattle.verdict.specs.declared.finding.Family.TheVariants.{N}
use Rattle.verdict.specs.declared.key.Key.{Key}
use Rattle.verdict.proofs.Tables.{kept_first}
use Rattle.super_reader.specs.declared.Super.{Super}
use Rattle.node_reader.specs.Faults.{block_fault, block_finding, body_rules, block_rules, count_rules, differs_from, header_rules, key_rules, reaches, room_of}
use Rattle.node_reader.specs.HighLaw.{high_fault}
use Rattle.node_reader.specs.Layout.{count_of, entry_key, entry_size}
use Rattle.node_reader.specs.Places.{each_from}
use Rattle.node_reader.specs.Stored.{CopyFault, Stored, block_in, found_by}
use Rattle.node_reader.specs.declared.expect.Expect.{Expect}
use Rattle.node_reader.proofs.High.{high_decides}
use Rattle.records.specs.Seen.{Seen}
use Rattle.records.specs.Seen.Seen.{BlockSeen}
use Rattle.records.specs.Walk.{Records, behind, block_at, entry_records, own_records}
use Rattle.walk_laws.specs.WalkOrder.{Ascend}
use Rattle.walk_laws.proofs.Blocks.{block_keys}
use Rattle.tree_laws.specs.Skips.{is_below}
use Rattle.tree_laws.proofs.Bounds.{below_trans, keys_below}
use Rattle.tree_laws.proofs.Trails.{Trail, Visit, after, trail_and, trail_with}
use Rattle.tree_laws.proofs.Visiting.{Visits}

-- a block is stored that breaks no rule, and what it has is read into records
pub record Accepts (sup : Super) (stored : Stored) (e : Expect) : Type 0 where
  pub bytes : List ℕ
  pub is : stored e.address ≡ Ok bytes
  pub passes : block_fault bytes sup.fsid e ≡ None
  pub entries : List Seen
  pub has : entry_records sup e bytes ≡ Ok entries

-- the visit of a block
abbrev pub visit_of : Expect → List ℕ → List Seen → Visit
visit_of e bytes entries = record { e = e; own = BlockSeen (block_at e bytes) ∷ entries }

-- a walk without a finding accepts its block
pub accepts : (P : Expect → Type 0) (below : Expect → List ℕ → Trail) (sup : Super) (stored : Stored) (e : Expect) → Visits P (trail_and below sup stored e) → Accepts sup stored e
unfolding block_in own_records behind
accepts P below sup stored e all = by (stored e.address) refl all
  where
    by_entries : (bytes : List ℕ) (entries : Records) → stored e.address ≡ Ok bytes → block_fault bytes sup.fsid e ≡ None → entry_records sup e bytes ≡ entries
        → Visits P (and_then (behind (BlockSeen (block_at e bytes) ∷ []) entries) (λ own. after (record { e = e; own = own } ∷ []) (below e bytes))) → Accepts sup stored e
    by_entries bytes (Err finding) is passes has all = elim all [ ]
    by_entries bytes (Ok entries) is passes has all = record { bytes = bytes; is = is; passes = passes; entries = entries; has = has }

    by_fault : (bytes : List ℕ) (fault : Option Finding) → stored e.address ≡ Ok bytes → block_fault bytes sup.fsid e ≡ fault
        → Visits P (and_then (finding_or fault bytes) (trail_with below sup e)) → Accepts sup stored e
    by_fault bytes (Some finding) is passes all = elim all [ ]
    by_fault bytes None is passes all = by_entries bytes (entry_records sup e bytes) is passes refl all

    by : (block : Result (List ℕ) CopyFault) → stored e.address ≡ block
        → Visits P (and_then (and_then (found_by e block) (λ bytes. finding_or (block_fault bytes sup.fsid e) bytes)) (trail_with below sup e)) → Accepts sup stored e
    by (Err fault) is all = elim all [ ]
    by (Ok bytes) is all = by_fault bytes (block_fault bytes sup.fsid e) is refl all

-- the trail from a block that is accepted
pub walk_accepted : (below : Expect → List ℕ → Trail) (sup : Super) (stored : Stored) (e : Expect) (a : Accepts sup stored e)
    → trail_and below sup stored e ≡ after (visit_of e a.bytes a.entries ∷ []) (below e a.bytes)
unfolding block_in own_records behind
walk_accepted below sup stored e a = rw (a.is, a.passes, a.has) refl

-- a low key is that of the first entry, and where there is one there is an entry
abbrev pub LowFits : Option Key → ℕ → List ℕ → Type 0
LowFits None level bytes = Unit {0}
LowFits (Some low) level bytes = ((count_of bytes == 0) ≡ false) × (key_same low (entry_key bytes (entry_size level) 0) ≡ true)

-- what fails in one table fails in another
abbrev pub FailsLess : List TableRow → List TableRow → Type 0
FailsLess rows [] = Unit {0}
FailsLess [] (row ∷ rows) = ⊥
FailsLess (row ∷ rows) (other ∷ others) = (row.fails ≡ false → other.fails ≡ false) × FailsLess rows others

quiet : (rows others : List TableRow) → FailsLess rows others → first_failing rows ≡ None → first_failing others ≡ None
quiet rows [] less none = refl
quiet [] (row ∷ others) less none = elim less [ ]
quiet (row ∷ rows) (other ∷ others) less none =
    let both = kept_first row rows none in
    rw (less.0 both.0) (quiet rows others less.1 both.1)

-- a block breaks no rule under another low key that fits
low_again : (bytes fsid : List ℕ) (v : Expect) (low : Option Key) → LowFits low v.level bytes → block_fault bytes fsid v ≡ None → block_fault bytes fsid (record v { low = low }) ≡ None
unfolding block_fault header_rules count_rules key_rules body_rules
low_again bytes fsid v low fits none =
    quiet (block_rules bytes fsid v) (block_rules bytes fsid (record v { low = low }))
    (λ h. h, (λ h. h, (λ h. h, (λ h. h, (λ h. h, (λ h. h, (λ h. h, (count low fits, (first low fits, (λ h. h, (λ h. h, (λ h. h, (λ h. h, tt)))))))))))))
    none
  where
    count : (low : Option Key) → LowFits low v.level bytes → (nat_lt (room_of bytes v.level) (count_of bytes) || (count_of bytes == 0 && (not (v.level == 0) || is_some v.low))) ≡ false
        → (nat_lt (room_of bytes v.level) (count_of bytes) || (count_of bytes == 0 && (not (v.level == 0) || is_some low))) ≡ false
    count None fits h = fewer (nat_lt (room_of bytes v.level) (count_of bytes)) (count_of bytes == 0) (not (v.level == 0)) (is_some v.low) h
      where
        fewer : (a b c d : Bool) → (a || (b && (c || d))) ≡ false → (a || (b && (c || false))) ≡ false
        fewer true b c d is = is
        fewer false true true d is = is
        fewer false true false d is = refl
        fewer false false c d is = refl
    count (Some low) fits h = none_there (nat_lt (room_of bytes v.level) (count_of bytes)) (count_of bytes == 0) (not (v.level == 0)) (is_some v.low) fits.0 h
      where
        none_there : (a b c d : Bool) → b ≡ false → (a || (b && (c || d))) ≡ false → (a || (b && (c || true))) ≡ false
        none_there true b c d free is = is
        none_there false true c d free is = absurd (cc)
        none_there false false c d free is = refl

    first : (low : Option Key) → LowFits low v.level bytes → differs_from v.low (entry_key bytes (entry_size v.level) 0) ≡ false → differs_from low (entry_key bytes (entry_size v.level) 0) ≡ false
    first None fits h = refl
    first (Some low) fits h = ap not fits.1

-- what is expected is the same block, but for its keys' bounds and the node above
pub record IsAs (e v : Expect) : Type 0 where
  pub tree : e.tree ≡ v.tree
  pub address : e.address ≡ v.address
  pub generation : e.generation ≡ v.generation
  pub level : e.level ≡ v.level

abbrev pub expect : ℕ → ℕ → ℕ → ℕ → Option Key → Option Key → ℕ → Expect
expect t a g l low high p = record { tree = t; address = a; generation = g; level = l; low = low; high = high; parent = p }

same_expect : (t a g l t' a' g' l' : ℕ) (low high : Option Key) (p : ℕ) → t ≡ t' → a ≡ a' → g ≡ g' → l ≡ l' → expect t' a' g' l' low high p ≡ expect t a g l low high p
same_expect t a g l t' a' g' l' low high p x y z w = rw (x, y, z, w) refl

pub as_expect : (e v : Expect) → IsAs e v → record v { low = e.low; high = e.high; parent = e.parent } ≡ e
as_expect e v same =
    same_expect e.tree e.address e.generation e.level v.tree v.address v.generation v.level e.low e.high e.parent same.tree same.address same.generation same.level

-- it breaks at most the rule on its high key
fault_again : (bytes fsid : List ℕ) (e v : Expect) → IsAs e v → LowFits e.low v.level bytes → block_fault bytes fsid v ≡ None → block_fault bytes fsid e ≡ high_fault bytes e
fault_again bytes fsid e v same fits none =
    let m : Expect = record v { low = e.low } in
    subst (λ x. block_fault bytes fsid x ≡ high_fault bytes x) (as_expect e v same)
    (high_decides.kept bytes fsid m e.high e.parent (low_again bytes fsid v e.low fits none))

-- the keys of a block's entries
abbrev pub keys_at : ℕ → List ℕ → List Key
keys_at level bytes = each_from (entry_key bytes (entry_size level)) 0 (count_of bytes)

-- of keys that ascend all are below a bound where the last one is
pub last_decides : (entry : ℕ → Key) (at n : ℕ) (high : Option Key) → Ascend (each_from entry at (suc n)) → keys_below (each_from entry at (suc n)) high ≡ is_below (entry (at + n)) high
unfolding each_from
last_decides entry at zero high ascend = let same : at + 0 ≡ at = omega arith in rw same (and_nil (is_below (entry at) high))
  where
    and_nil : (b : Bool) → (b && true) ≡ b
    and_nil true = refl
    and_nil false = refl
last_decides entry at (suc n) high ascend =
    let same : suc at + n ≡ at + suc n = omega arith in
    absorbs (is_below (entry at) high) (keys_below (each_from entry (suc at) (suc n)) high)
    (λ all. through high (entry at) (entry (suc at)) ascend.0.0 (and_parts (is_below (entry (suc at)) high) (keys_below (each_from entry (suc (suc at)) n) high) all).0)
    ∙ (last_decides entry (suc at) n high ascend.1 ∙ ap (λ i. is_below (entry i) high) same)
  where
    through : (high : Option Key) (a b : Key) → key_below a b ≡ true → is_below b high ≡ true → is_below a high ≡ true
    through None a b less below = refl
    through (Some high) a b less below = below_trans a b high less below

high_decides_all : (entry : ℕ → Key) (n : ℕ) (high : Option Key) → Ascend (each_from entry 0 n) → (not (n == 0) && reaches high (entry (n - 1))) ≡ not (keys_below (each_from entry 0 n) high)
unfolding each_from
high_decides_all entry zero high ascend = refl
high_decides_all entry (suc n) high ascend =
    let some : (suc n == 0) ≡ false = grind (arith, nat_tests) in
    let last : suc n - 1 ≡ n = omega arith in
    let same : 0 + n ≡ n = omega arith in
    rw (some, last) (by high (entry n) ∙ ap not (ap (λ i. is_below (entry i) high) (sym same) ∙ sym (last_decides entry 0 n high ascend)))
  where
    by : (high : Option Key) (key : Key) → reaches high key ≡ not (is_below key high)
    by None key = refl
    by (Some high) key = refl

-- the finding of the rule on the high key
abbrev pub high_finding : Expect → List ℕ → Finding
high_finding e bytes = block_finding e N 12 (count_of bytes - 1)

-- a block that is accepted, as it is expected elsewhere
pub walk_again : (below : Expect → List ℕ → Trail) (sup : Super) (old new : Stored) (e v : Expect) (a : Accepts sup old v) → IsAs e v → LowFits e.low v.level a.bytes → new e.address ≡ Ok a.bytes
    → trail_and below sup new e ≡ (if keys_below (keys_at v.level a.bytes) e.high then after (visit_of e a.bytes a.entries ∷ []) (below e a.bytes) else Err (high_finding e a.bytes))
unfolding block_in own_records behind high_fault
walk_again below sup old new e v a same fits is =
    let fault : block_fault a.bytes sup.fsid e ≡ high_fault a.bytes e = fault_again a.bytes sup.fsid e v same fits a.passes in
    let keys : (not (count_of a.bytes == 0) && reaches e.high (entry_key a.bytes (entry_size e.level) (count_of a.bytes - 1))) ≡ not (keys_below (keys_at v.level a.bytes) e.high) =
    rw same.level (high_decides_all (entry_key a.bytes (entry_size v.level)) (count_of a.bytes) e.high (block_keys a.bytes sup.fsid v a.passes).ascend) in
    rw (is, fault, keys) (by (keys_below (keys_at v.level a.bytes) e.high))
  where
    has : entry_records sup e a.bytes ≡ Ok a.entries
    has = subst (λ x. entry_records sup x a.bytes ≡ Ok a.entries) (as_expect e v same) a.has

    by : (b : Bool) → and_then (finding_or (if not b then Some (high_finding e a.bytes) else None) a.bytes) (trail_with below sup e)
        ≡ (if b then after (visit_of e a.bytes a.entries ∷ []) (below e a.bytes) else Err (high_finding e a.bytes))
    by true = rw has refl
    by false = refl
