-- Tables of what is kept, by keys of some kind. It serves to state what private functions keep.
use Rattle.std.specs.Prelude.{◌≡◌, ℕ, ◌+◌, Bool, ◌&&◌, ◌==◌, nat_lt, List, [], ◌∷◌, ◌++◌, Option, Some, None, IsSome, slice_get, if◌then◌else◌}
use Rattle.std.specs.BTreeMap as map
use Rattle.std.specs.List.{AllByRecursion}
use Rattle.indexmap.specs.IndexMap.{IndexMap, get, index_map_len, keys, values}
use Rattle.accounts.specs.declared.account.Account.{Account}
use Rattle.accounts.specs.Order.{account_cmp}
use Rattle.ledger_keys.specs.declared.kept.Kept.{Kept}
use Rattle.ledger_keys.specs.Kept.{IsZero, sums_at}

-- what is kept under each key, if anything is
abbrev pub Entries : Type 0 → Type 0
Entries K = K → Option Kept

-- no entry's sums are all zero
abbrev pub AreTidy : {K : Type 0} → Entries K → Type 0
AreTidy {K} entries = (key : K) (kept : Kept) → entries key ≡ Some kept → IsZero kept → ⊥

-- an amount to one sum under a key changed exactly that one
abbrev pub Changes : {K : Type 0} → (K → K → Bool) → (ℕ → ℕ → ℕ) → Entries K → Entries K → K → ℕ → ℕ → Type 0
Changes {K} same how old new key field amount =
    (other : K) (n : ℕ)
    → sums_at (new other) n ≡ how (if same key other && (field == n && nat_lt n 9) then amount else 0) (sums_at (old other) n)

-- all sums stayed
abbrev pub Stays : {K : Type 0} → Entries K → Entries K → Type 0
Stays {K} old new = (other : K) (n : ℕ) → sums_at (new other) n ≡ sums_at (old other) n

-- the entries of a map by whole accounts
abbrev pub by_account : map.BTreeMap Account Kept → Entries Account
by_account entries account = map.get account_cmp entries account

-- the entries of a map by other keys
abbrev pub by_key : {K T S : Type 0} → (K → K → Bool) → IndexMap K T S → K → Option T
by_key same entries key = get same entries key

-- the entry of a key stands at an index
pub record StandsAt {K T S : Type 0} (same : K → K → Bool) (entries : IndexMap K T S) (i : ℕ) (k : K) : Type 0 where
  pub key : slice_get (keys entries) i ≡ Some k
  pub value : slice_get (values entries) i ≡ by_key same entries k
  pub there : IsSome (slice_get (values entries) i)

-- the entry of a key in one of the parts of a table, if there is that part
abbrev pub in_part : {K S : Type 0} → (K → K → Bool) → K → Option (IndexMap K Kept S) → Option Kept
in_part same key None = None
in_part same key (Some part) = by_key same part key

-- the entries of a table in parts: that of each key stands in the part with the number that the key has
abbrev pub by_parts : {K S : Type 0} → (K → K → Bool) → (K → ℕ) → List (IndexMap K Kept S) → Entries K
by_parts same number parts key = in_part same key (slice_get parts (number key))

-- a part with a number has no entry whose sums are all zero, and none of a key with another number
pub record IsFit {K S : Type 0} (same : K → K → Bool) (number : K → ℕ) (n : ℕ) (part : IndexMap K Kept S) : Type 0 where
  pub tidy : AreTidy (by_key same part)
  pub home : (key : K) (kept : Kept) → by_key same part key ≡ Some kept → number key ≡ n

-- this holds of each part
abbrev pub AreFit : {K S : Type 0} → (K → K → Bool) → (K → ℕ) → List (IndexMap K Kept S) → Type 0
AreFit {K} {S} same number parts = (n : ℕ) (part : IndexMap K Kept S) → slice_get parts n ≡ Some part → IsFit same number n part

-- the entries of parts, one behind the other
unfoldable pub entries_in : {K S : Type 0} → List (IndexMap K Kept S) → List (K × Kept)
entries_in [] = []
entries_in (part ∷ parts) = part.entries ++ entries_in parts

-- how many there are
unfoldable pub count_in : {K S : Type 0} → List (IndexMap K Kept S) → ℕ
count_in [] = 0
count_in (part ∷ parts) = index_map_len part + count_in parts

-- the entry of a key stands at an index of its part
pub record StandsIn {K S : Type 0} (same : K → K → Bool) (number : K → ℕ) (parts : List (IndexMap K Kept S)) (i : ℕ) (k : K) : Type 0 where
  pub part : IndexMap K Kept S
  pub here : slice_get parts (number k) ≡ Some part
  pub stands : StandsAt same part i k

-- all parts are empty
abbrev pub AreEmpty : {K S : Type 0} → List (IndexMap K Kept S) → Type 0
AreEmpty {K} {S} parts = AllByRecursion (λ (part : IndexMap K Kept S). part.entries ≡ []) parts

-- what is kept under keys is kept under them in other entries too
abbrev pub Within : {K : Type 0} → Entries K → Entries K → Type 0
Within {K} part table = (key : K) (kept : Kept) → part key ≡ Some kept → table key ≡ Some kept
