-- No write of a commit reaches a live block.
use Rattle.std.proofs.Common.{◌≡◌, ◌≢◌, ℕ, ◌+◌, ◌*◌, ◌<◌, ◌≤◌, ◌⊎◌, List, [], ◌∷◌, ◌++◌, get_or, inl, inr, refl, sym, subst, arith}
use Rattle.std.specs.List.{All}
use Rattle.std.proofs.lemmas.Bool.{cases_order}
use Rattle.std.proofs.lemmas.List.Elements.{All-append, All-push, All-weaker, All-contains}
use Rattle.verdict.specs.declared.machine.Event.{Event}
use Rattle.verdict.specs.declared.machine.Event.TheVariants.{Write, Settle, Fetch}
use Rattle.verdict.specs.Events.{begin_of, end_of, length_of}
use Rattle.volume_maker.specs.declared.block.BlockAt.{BlockAt}
use Rattle.volume_maker.specs.Live.{AreInChunk, IsUpTo, IsBefore, IsOverNoLive}
use Rattle.trace_maker.specs.Made.{IsSuperblockWrite}
use Rattle.trace_maker.specs.Live.{MissesBlock, MissesLive}
use Rattle.trace_maker.specs.Writes.{HasMore, IsWriteOf}

-- whether an event misses both copies of this block
abbrev Misses : Event → BlockAt → Type 0
Misses e b = MissesBlock e (5242880 + 16384 * b.number) × MissesBlock e (5242880 + 16384 * b.number + 8388608)

-- blocks up to a generation are before the next
pub before_next : (k : ℕ) (blocks : List BlockAt) → IsUpTo k blocks → IsBefore (k + 1) blocks
before_next k blocks h = All-weaker (λ b. b.generation ≤ k) (λ b. b.generation < k + 1) (λ b few. omega arith) blocks h

end_is : (e : Event) → 0 < length_of e → end_of e ≡ begin_of e + length_of e
end_is (Write submitter at bytes) some = refl
end_is Settle some = refl
end_is (Fetch at len) some = refl

first_misses : (e : Event) (n m : ℕ) → end_of e ≡ begin_of e + 16384 → begin_of e ≡ 5242880 + 16384 * n + 0 → n < 512 → m < 512 → (m < n) ⊎ (n < m)
    → MissesBlock e (5242880 + 16384 * m) × MissesBlock e (5242880 + 16384 * m + 8388608)
first_misses e n m size place within other (inl below) = (inr (omega arith), inl (omega arith))
first_misses e n m size place within other (inr above) = (inl (omega arith), inl (omega arith))

second_misses : (e : Event) (n m : ℕ) → end_of e ≡ begin_of e + 16384 → begin_of e ≡ 5242880 + 16384 * n + 8388608 → n < 512 → m < 512 → (m < n) ⊎ (n < m)
    → MissesBlock e (5242880 + 16384 * m) × MissesBlock e (5242880 + 16384 * m + 8388608)
second_misses e n m size place within other (inl below) = (inr (omega arith), inr (omega arith))
second_misses e n m size place within other (inr above) = (inr (omega arith), inl (omega arith))

apart : (m n : ℕ) → m ≢ n → (m < n) ⊎ (n < m)
apart m n differ =
    elim (cases_order m n) [
      | inl same ↦ absurd (differ same)
      | inr h ↦ h
    ]

-- the write of a new block misses the old ones
new_misses : (g : ℕ) (old new : List BlockAt) (copy : ℕ) → AreInChunk old → AreInChunk new → IsOverNoLive g old new → (copy ≡ 0) ⊎ (copy ≡ 8388608)
    → (e : Event) → IsWriteOf g new copy e → MissesLive old e
new_misses g old new copy old_in new_in over which e w =
    let n = w.block.number in
    let R : BlockAt → Type 0 = λ b. b.generation ≡ g → All (λ o. o.number ≢ b.number) old in
    let within : n < 512 = All-contains (λ b. b.number < 512) new w.block new_in w.one in
    let differ : All (λ o. o.number ≢ n) old = All-contains R new w.block over w.one w.new in
    let size : end_of e ≡ begin_of e + 16384 = omega (arith, end_is e (omega arith)) in
    elim which [
      | inl first ↦
          λ k d inside. first_misses e n (get_or old k d).number size (omega arith) within (old_in k d inside)
          (apart (get_or old k d).number n (differ k d inside))
      | inr second ↦
          λ k d inside. second_misses e n (get_or old k d).number size (omega arith) within (old_in k d inside)
          (apart (get_or old k d).number n (differ k d inside))
    ]

-- what is written behind all tree blocks misses them
behind_misses : (old : List BlockAt) → AreInChunk old → (e : Event) → 22020096 ≤ begin_of e → MissesLive old e
behind_misses old old_in e behind =
    All-weaker (λ b. b.number < 512) (Misses e) (λ b within. (inr (omega arith), inr (omega arith))) old old_in

superblock_misses : (old : List BlockAt) (e : Event) → IsSuperblockWrite e → MissesLive old e
superblock_misses old (Write submitter at bytes) h = λ k d inside. (inl (omega arith), inl (omega arith))
superblock_misses old Settle h = absurd h
superblock_misses old (Fetch at len) h = absurd h

-- no write of a commit reaches a live block
pub commit_misses : (g : ℕ) (old new : List BlockAt) (data_writes mid front events : List Event) (last : Event)
    → AreInChunk old → AreInChunk new → IsOverNoLive g old new → All (λ e. 22020096 ≤ begin_of e) data_writes
    → HasMore g new 0 data_writes mid → HasMore g new 8388608 mid front → events ≡ front ++ last ∷ [] → IsSuperblockWrite last → All (MissesLive old) events
commit_misses g old new data_writes mid front events last old_in new_in over behind m n e h =
    let P : List Event → Type 0 = λ l. All (MissesLive old) l in
    let data_miss : P data_writes = All-weaker (λ e. 22020096 ≤ begin_of e) (MissesLive old) (λ e b. behind_misses old old_in e b) data_writes behind in
    let first_miss : P m.more = All-weaker (IsWriteOf g new 0) (MissesLive old) (λ e w. new_misses g old new 0 old_in new_in over (inl refl) e w) m.more m.placed in
    let second_miss : P n.more = All-weaker (IsWriteOf g new 8388608) (MissesLive old) (λ e w. new_misses g old new 8388608 old_in new_in over (inr refl) e w) n.more n.placed in
    let mid_miss : P mid = subst P (sym m.parts) (All-append (MissesLive old) data_writes m.more data_miss first_miss) in
    let front_miss : P front = subst P (sym n.parts) (All-append (MissesLive old) mid n.more mid_miss second_miss) in
    subst P (sym e) (All-push (MissesLive old) front last front_miss (superblock_misses old last h))
