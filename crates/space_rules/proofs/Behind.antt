-- Sectors one behind the other.
use Rattle.std.proofs.Common.{◌≡◌, ℕ, suc, ◌+◌, ◌-◌, ◌*◌, ◌<◌, ◌≤◌, [], ◌∷◌, refl, ap, arith}
use Rattle.records.specs.SpacePostings.{sectors_from}

pub sector_next : (address count i : ℕ) → i < count → sectors_from (address + i * 4096) (count - i) ≡ (address + i * 4096) ∷ sectors_from (address + (i + 1) * 4096) (count - (i + 1))
unfolding sectors_from
sector_next address count i more =
    let one : count - i ≡ suc (count - (i + 1)) = omega arith in
    let next : address + i * 4096 + 4096 ≡ address + (i + 1) * 4096 = omega arith in
    rw one (ap (λ a. (address + i * 4096) ∷ sectors_from a (count - (i + 1))) next)

pub sector_none : (address count i : ℕ) → count ≤ i → sectors_from (address + i * 4096) (count - i) ≡ []
unfolding sectors_from
sector_none address count i none =
    let zeros : count - i ≡ 0 = omega arith in
    rw zeros refl
