-- Where no live block is hot, each stop image is accepted.
use Rattle.std.proofs.Common.{◌≡◌, ℕ, ◌+◌, ◌-◌, ◌<◌, ◌≤◌, inl, inr, Bool, true, false, min, List, get_or, length, is_some, Option, Some, None, refl, sym, ap, ◌∙◌, arith, subst}
use Rattle.std.specs.Bool.{MatchBool}
use Rattle.std.specs.Ordering.{nat_cmp}
use Rattle.std.specs.FinMap.{FinMap, get}
use Rattle.verdict.specs.Events.{meets_superblock}
use Rattle.verdict.specs.Image.{range}
use Rattle.verdict.specs.declared.finding.Verdict.{Verdict}
use Rattle.verdict.specs.declared.finding.Verdict.TheVariants.{Accept, Found}
use Rattle.verdict.specs.declared.machine.Event.TheVariants.{Write, Settle, Fetch}
use Rattle.verdict.specs.declared.machine.HeldWrite.{HeldWrite}
use Rattle.write_cache.specs.Cache.{AllInside, cache_of, overlaid}
use Rattle.write_cache.proofs.CacheLaws.{AllInside-push, get-range, length-range, overlaid-applied}
use Rattle.records.specs.FullCheck.{full_check}
use Rattle.recon_disk.proofs.Sending.{same_bytes}
use Rattle.touched_blocks.specs.Touched.{written_in}
use Rattle.commit_laws.specs.Commit.{IsKnown, Known}
use Rattle.commit_laws.specs.Stops.{KeepsUnwritten}
use Rattle.commit_judge.specs.Counts.{hot_between}
use Rattle.commit_judge.specs.EachKnown.{EachIsKnown}
use Rattle.commit_judge.specs.Stops.{SafeStops}
use Rattle.recon_core.specs.Machine.{MachineState, judged_image, with_pending}
use Rattle.recon_core.specs.Standing.{IsAccepted}
use Rattle.recon_core.specs.Safe.{StopsAreSafe}
use Rattle.recon_core.specs.Stops.{IsJudgedStop, IsLeftBy, IsPartlySent}

not_written : (o : Option ℕ) → is_some o ≡ false → o ≡ None
not_written None h = refl
not_written (Some x) h = absurd (cc)

same_place : (image left : List ℕ) → length left ≡ length image → ((i : ℕ) → 65536 ≤ i → i < 69632 → get_or left i 0 ≡ get_or image i 0)
    → range 65536 4096 left ≡ range 65536 4096 image
same_place image left size same =
    let n : length (range 65536 4096 left) ≡ min 4096 (length left - 65536) = length-range 65536 4096 left in
    let m : length (range 65536 4096 image) ≡ min 4096 (length image - 65536) = length-range 65536 4096 image in
    same_bytes (range 65536 4096 left) (range 65536 4096 image) (n ∙ ap (λ k. min 4096 (k - 65536)) size ∙ sym m)
    (λ i h. get-range 65536 4096 left i (omega arith) ∙ same (65536 + i) (omega arith) (omega arith) ∙ sym (get-range 65536 4096 image i (omega arith)))

keeps : (m : FinMap nat_cmp ℕ) (image left : List ℕ) → IsPartlySent m image left → KeepsUnwritten (written_in m) image left
keeps m image left part = record {
  size = part.same_length;
  super = same_place image left part.same_length part.place;
  others = λ i no. part.others i (not_written (get m i) no);
}

-- what is left of a judged event, by what the full check says of the judged image
left_safe : SafeStops → (m : FinMap nat_cmp ℕ) (image judged left : List ℕ) (k : Known) (v : Verdict) → IsAccepted image → IsKnown image k
    → overlaid m 0 image ≡ judged → full_check judged ≡ v → hot_between image m ≡ 0 → IsLeftBy v m judged image left → IsAccepted left
left_safe law m image judged left k (Found finding) accepted known over is hot stop = subst IsAccepted (sym stop) accepted
left_safe law m image judged left k (Accept generation) accepted known over is hot stop = elim stop [
  | inl new ↦ (generation, ap full_check new ∙ is)
  | inr part ↦ (accepted.0, law image left m k generation known (ap full_check over ∙ is) hot (keeps m image left part) ∙ accepted.1)
]

judged_safe : SafeStops → (s : MachineState) (left : List ℕ) (k : Known) → IsAccepted s.image → AllInside (length s.image) s.pending → IsKnown s.image k
    → hot_between s.image (cache_of s.pending) ≡ 0 → IsJudgedStop s left → IsAccepted left
judged_safe law s left k accepted inside known hot stop =
    left_safe law (cache_of s.pending) s.image (judged_image s) left k (full_check (judged_image s)) accepted known
    (overlaid-applied s.pending s.image inside) refl hot stop

write_safe : (b : Bool) (P Q R : Type 0) → (P → R) → (Q → R) → MatchBool b P Q → R
write_safe true P Q R f g h = f h
write_safe false P Q R f g h = g h

pub stops_are_safe : SafeStops → EachIsKnown → StopsAreSafe
stops_are_safe law each s (Write submitter at bytes) left lawful inside hot stop =
    let w : HeldWrite = record { at = at; bytes = bytes } in
    let known = each s.image lawful.accepted.0 lawful.accepted.1 in
    write_safe (meets_superblock at (length bytes)) (IsJudgedStop (with_pending s w) left) (left ≡ s.image) (IsAccepted left)
    (λ h. judged_safe law (with_pending s w) left known.0 lawful.accepted (AllInside-push (length s.image) s.pending w lawful.inside inside) known.1 hot h)
    (λ same. subst IsAccepted (sym same) lawful.accepted) stop
stops_are_safe law each s Settle left lawful inside hot stop =
    let known = each s.image lawful.accepted.0 lawful.accepted.1 in
    judged_safe law s left known.0 lawful.accepted lawful.inside known.1 hot stop
stops_are_safe law each s (Fetch at len) left lawful inside hot stop = subst IsAccepted (sym stop) lawful.accepted
