-- Directory entries one after the other.
use Rattle.std.proofs.Common.{◌≡◌, ℕ, ◌+◌, ◌<◌, ◌≤◌, Bool, true, false, List, [], ◌∷◌, length, refl, ap, sym, ◌∙◌, arith}
use Rattle.std.proofs.lemmas.Bool.{lt-ltb, le-ltb}
use Rattle.std.specs.Prelude.{nat_lt, slice_index, bytes_eq, ◌&&◌, if◌then◌else◌}
use Rattle.verdict.specs.OnDisk.{key_of}
use Rattle.verdict.specs.declared.key.Key.{Key}
use Rattle.fs_items.specs.DirRow.{name_len, name_in, entry_end, entry_at, entries_from, stands_before}
use Rattle.fs_items.proofs.Places.{MovesOn, FailsFrom, whole_none, whole_more, any_from, any_here, any_next, any_none}

-- each entry has 30 bytes at least
pub entries_move : (bytes : List ℕ) → MovesOn (entry_end bytes)
entries_move bytes = record { past = λ place. omega arith }

-- where fewer bytes are left than an entry has, none is left
pub entries_none : (bytes : List ℕ) (place : ℕ) → length bytes < entry_end bytes place → entries_from bytes place ≡ []
entries_none bytes place h = whole_none (entry_end bytes) (length bytes) (entry_at bytes) place (entries_move bytes) h

-- a whole entry, as it is read, and those behind it
pub entries_more : (bytes name : List ℕ) (place size : ℕ) (location : Key) → size ≡ name_len bytes place → location ≡ key_of bytes place → name ≡ name_in bytes place → place + 30 + size ≤ length bytes → entries_from bytes place ≡ record { location = location; sort = slice_index bytes (place + 29); name = name } ∷ entries_from bytes (place + 30 + size)
entries_more bytes name place size location s l n h =
    rw (s, l, n) (whole_more (entry_end bytes) (length bytes) (entry_at bytes) place (entries_move bytes) (omega (arith, s)))

-- behind a whole entry there are fewer
pub entries_fewer : (bytes : List ℕ) (place size : ℕ) → size ≡ name_len bytes place → place + 30 + size ≤ length bytes → length (entries_from bytes (place + 30 + size)) < length (entries_from bytes place)
entries_fewer bytes place size s h =
    omega (arith, ap length (entries_more bytes (name_in bytes place) place size (key_of bytes place) s refl refl h))

-- the test that an earlier entry with the name of the entry at a place passes
abbrev is_earlier : List ℕ → ℕ → ℕ → Bool
is_earlier bytes place earlier = nat_lt earlier place && bytes_eq (name_in bytes earlier) (name_in bytes place)

-- whether an entry of those from one on passes it
unfoldable pub stands_from : List ℕ → ℕ → ℕ → Bool
stands_from bytes place earlier = any_from (is_earlier bytes place) (entry_end bytes) (length bytes) earlier

pub stands_all : (bytes : List ℕ) (place : ℕ) → stands_before bytes place ≡ stands_from bytes place 0
unfolding stands_before stands_from
stands_all bytes place = refl

-- no entry from the place on does
later_fails : (bytes : List ℕ) (place : ℕ) → FailsFrom (is_earlier bytes place) place
later_fails bytes place =
    record { fails = λ p h. ap (λ b. b && bytes_eq (name_in bytes p) (name_in bytes place)) (le-ltb p place h) }

-- of an entry before the place its name decides, and then the entries behind it
pub stands_step : (bytes : List ℕ) (place earlier : ℕ) → earlier < place → place ≤ length bytes → stands_from bytes place earlier ≡ (if bytes_eq (name_in bytes earlier) (name_in bytes place) then true else stands_from bytes place (entry_end bytes earlier))
unfolding stands_from
stands_step bytes place earlier h within = by_name (bytes_eq (name_in bytes earlier) (name_in bytes place)) refl
  where
    decides : is_earlier bytes place earlier ≡ bytes_eq (name_in bytes earlier) (name_in bytes place)
    decides = ap (λ b. b && bytes_eq (name_in bytes earlier) (name_in bytes place)) (lt-ltb earlier place h)

    by_name : (same : Bool) → bytes_eq (name_in bytes earlier) (name_in bytes place) ≡ same → any_from (is_earlier bytes place) (entry_end bytes) (length bytes) earlier ≡ (if same then true else any_from (is_earlier bytes place) (entry_end bytes) (length bytes) (entry_end bytes earlier))
    by_name true e = sym (any_here (is_earlier bytes place) (entry_end bytes) (length bytes) earlier (decides ∙ e))
    by_name false e = sym (any_next (is_earlier bytes place) (entry_end bytes) (length bytes) earlier place (entries_move bytes) (later_fails bytes place) within (decides ∙ e))

-- none does where the entry itself is reached
pub stands_none : (bytes : List ℕ) (place earlier : ℕ) → place ≤ earlier → stands_from bytes place earlier ≡ false
unfolding stands_from
stands_none bytes place earlier h = any_none (is_earlier bytes place) (entry_end bytes) (length bytes) earlier place (entries_move bytes) (later_fails bytes place) h

pub ruleset stands = (stands_all, stands_step, stands_none)
