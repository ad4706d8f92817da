-- The commits so far, and one more.
use Rattle.std.proofs.Common.{◌≡◌, ℕ, ◌+◌, Bool, true, false, cond, List, [], ◌∷◌, ◌++◌, length, refl, sym, ap, ◌∙◌, subst, append_assoc, append-nil, arith}
use Rattle.std.specs.List.{All, count_by}
use Rattle.std.proofs.lemmas.List.Elements.{All-append, All-weaker, All-head, All-tail, All-push}
use Rattle.std.proofs.lemmas.List.Sums.{sum_by-append, sum_by-cons}
use Rattle.verdict.specs.declared.machine.Event.{Event}
use Rattle.verdict.specs.declared.machine.Event.TheVariants.{Write, Settle, Fetch}
use Rattle.verdict.specs.Events.{meets_superblock}
use Rattle.trace_reader.specs.Trace.{IsSpelled, spelling_of, spelling_of_all}
use Rattle.trace_maker.specs.declared.operation.Operation.{Operation}
use Rattle.trace_maker.specs.Made.{is_commit, IsWriteBy, IsSuperblockWrite, IsCommitOf, AreCommits, carried_out}
use Rattle.volume_maker.specs.Volume.{Standing}

spelled_write : (who : ℕ) (e : Event) → IsWriteBy who e → IsSpelled e
spelled_write who (Write submitter at bytes) h = h.1
spelled_write who Settle h = absurd h
spelled_write who (Fetch at len) h = absurd h

beside_write : (who : ℕ) (e : Event) → IsWriteBy who e → is_commit e ≡ false
beside_write who (Write submitter at bytes) h = h.2
beside_write who Settle h = absurd h
beside_write who (Fetch at len) h = absurd h

spelled_last : (e : Event) → IsSuperblockWrite e → IsSpelled e
spelled_last (Write submitter at bytes) h = h.3
spelled_last Settle h = absurd h
spelled_last (Fetch at len) h = absurd h

commits_last : (e : Event) → IsSuperblockWrite e → is_commit e ≡ true
commits_last (Write submitter at bytes) h =
    let len = length bytes in
    ap (λ (a : ℕ). meets_superblock a len) h.1 ∙ ap (λ (n : ℕ). meets_superblock 65536 n) h.2
commits_last Settle h = absurd h
commits_last (Fetch at len) h = absurd h

pub counts_append : (xs ys : List Event) → count_by is_commit (xs ++ ys) ≡ count_by is_commit xs + count_by is_commit ys
counts_append xs ys = sum_by-append (λ (e : Event). cond (is_commit e) 1 0) xs ys

counts_first : (x : Event) (xs : List Event) → count_by is_commit (x ∷ xs) ≡ cond (is_commit x) 1 0 + count_by is_commit xs
counts_first x xs = sum_by-cons (λ (e : Event). cond (is_commit e) 1 0) x xs

counts_none : (xs : List Event) → All (λ e. is_commit e ≡ false) xs → count_by is_commit xs ≡ 0
counts_none [] h = refl
counts_none (x ∷ xs) h =
    let P : Event → Type 0 = λ e. is_commit e ≡ false in
    counts_first x xs
    ∙ ap (λ (b : Bool). cond b 1 0 + count_by is_commit xs) (All-head P x xs h)
    ∙ ap (λ (n : ℕ). 0 + n) (counts_none xs (All-tail P x xs h))

pub spelled_commit : (k : ℕ) (s : Standing) (op : Operation) (es : List Event) → IsCommitOf k s op es → All IsSpelled es
spelled_commit k s op es c =
    let P : List Event → Type 0 = λ l. All IsSpelled l in
    subst P (sym c.parts) (All-push IsSpelled (c.data_writes ++ c.blocks) c.superblock
    (All-append IsSpelled c.data_writes c.blocks (All-weaker (IsWriteBy 1) IsSpelled (spelled_write 1) c.data_writes c.lawful_data) (All-weaker (IsWriteBy 0) IsSpelled (spelled_write 0) c.blocks c.lawful_blocks))
    (spelled_last c.superblock c.lawful))

pub one_commit : (k : ℕ) (s : Standing) (op : Operation) (es : List Event) → IsCommitOf k s op es → count_by is_commit es ≡ 1
one_commit k s op es c =
    let P : Event → Type 0 = λ e. is_commit e ≡ false in
    let data_count : count_by is_commit c.data_writes ≡ 0 = counts_none c.data_writes (All-weaker (IsWriteBy 1) P (beside_write 1) c.data_writes c.lawful_data) in
    let block_count : count_by is_commit c.blocks ≡ 0 = counts_none c.blocks (All-weaker (IsWriteBy 0) P (beside_write 0) c.blocks c.lawful_blocks) in
    let last : count_by is_commit (c.superblock ∷ []) ≡ 1 =
    counts_first c.superblock [] ∙ ap (λ (b : Bool). cond b 1 0 + 0) (commits_last c.superblock c.lawful) in
    let front = counts_append c.data_writes c.blocks in
    let whole = counts_append (c.data_writes ++ c.blocks) (c.superblock ∷ []) in
    ap (λ (l : List Event). count_by is_commit l) c.parts ∙ whole ∙ omega (arith, front, data_count, block_count, last)

pub spelling_append : (xs ys : List Event) → spelling_of_all (xs ++ ys) ≡ spelling_of_all xs ++ spelling_of_all ys
spelling_append [] ys = refl
spelling_append (x ∷ xs) ys = ap (λ (r : List ℕ). spelling_of x ++ r) (spelling_append xs ys) ∙ sym (append_assoc (spelling_of x) (spelling_of_all xs) (spelling_of_all ys))

-- what stands after the commits of these operations, which are numbered from k on
abbrev pub standing_after : ℕ → List Operation → Standing → Standing
standing_after k [] s = s
standing_after k (op ∷ ops) s = standing_after (k + 1) ops (carried_out k op s)

pub standing_more : (k : ℕ) (ops : List Operation) (op : Operation) (s : Standing)
    → standing_after k (ops ++ op ∷ []) s ≡ carried_out (k + length ops) op (standing_after k ops s)
standing_more k [] op s = ap (λ n. carried_out n op s) (omega arith)
standing_more k (o ∷ ops) op s =
    let s' = standing_after (k + 1) ops (carried_out k o s) in
    standing_more (k + 1) ops op (carried_out k o s) ∙ ap (λ n. carried_out n op s') (omega arith)

pub commits_more : (k : ℕ) (s : Standing) (ops : List Operation) (op : Operation) (es now : List Event) → AreCommits k s ops es
    → IsCommitOf (k + length ops) (standing_after k ops s) op now → AreCommits k s (ops ++ op ∷ []) (es ++ now)
commits_more k s [] op es now h c =
    let P : ℕ → Type 0 = λ n. IsCommitOf n s op now in
    (now, [], ap (λ (l : List Event). l ++ now) h ∙ sym (append-nil now), subst P (omega arith) c, refl)
commits_more k s (o ∷ ops) op es now h c =
    let P : ℕ → Type 0 = λ n. IsCommitOf n (standing_after (k + 1) ops (carried_out k o s)) op now in (
      h.0,
      h.1 ++ now,
      ap (λ (l : List Event). l ++ now) h.2 ∙ append_assoc h.0 h.1 now,
      h.3,
      commits_more (k + 1) (carried_out k o s) ops op h.1 now h.4 (subst P (omega arith) c),
    )
