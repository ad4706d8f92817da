-- The names of a file one after the other.
use Rattle.std.proofs.Common.{◌≡◌, ℕ, ◌+◌, ◌<◌, ◌≤◌, List, [], ◌∷◌, length, refl, ap, arith}
use Rattle.verdict.specs.declared.key.Key.{Key}
use Rattle.fs_items.specs.InodeRefRow.{NameFields, name_size, name_place, name_end, name_at, names_from}
use Rattle.fs_items.proofs.Places.{MovesOn, whole_none, whole_more}

-- each entry has ten bytes at least
pub names_move : (key : Key) (bytes : List ℕ) → MovesOn (name_end key bytes)
names_move key bytes = record { past = λ place. omega arith }

-- where fewer bytes are left than an entry has, none is left
pub names_none : (key : Key) (bytes : List ℕ) (place : ℕ) → length bytes < name_end key bytes place → names_from key bytes place ≡ []
names_none key bytes place h = whole_none (name_end key bytes) (length bytes) (name_at key bytes) place (names_move key bytes) h

-- a whole entry, as it is read, and those behind it
pub names_more : (key : Key) (bytes : List ℕ) (place start size : ℕ) (item : NameFields) → start ≡ name_place key place → size ≡ name_size key bytes place → item ≡ name_at key bytes place → start + size ≤ length bytes → names_from key bytes place ≡ item ∷ names_from key bytes (start + size)
names_more key bytes place start size item b s i h =
    rw (b, s, i) (whole_more (name_end key bytes) (length bytes) (name_at key bytes) place (names_move key bytes) (omega (arith, b, s)))

-- behind a whole entry there are fewer
pub names_fewer : (key : Key) (bytes : List ℕ) (place start size : ℕ) → start ≡ name_place key place → size ≡ name_size key bytes place → start + size ≤ length bytes → length (names_from key bytes (start + size)) < length (names_from key bytes place)
names_fewer key bytes place start size b s h = omega (arith, ap length (names_more key bytes place start size (name_at key bytes place) b s refl h))
