-- How a make goes: calls that are sent one after the other, and what a fault leaves of the device.
use Rattle.std.proofs.Common.{◌≡◌, ℕ, ◌+◌, ◌-◌, ◌≤◌, inl, inr, List, length, drop, Option, Some, None, IfSome, option_map, Err, refl, sym, ap, ◌∙◌, arith, subst}
use Rattle.std.specs.Option.{IsSomeAnd}
use Rattle.std.proofs.lemmas.List.{ext_get_or, length-drop, get_or-drop}
use Rattle.verdict.specs.Image.{written}
use Rattle.verdict.proofs.Images.{length-written, get-written_behind}
use Rattle.recon_disk.specs.Sending.{StaysOutside}
use Rattle.recon_cli.specs.declared.run_fault.RunFault.{RunFault}
use Rattle.recon_cli.specs.declared.run_fault.RunFault.TheVariants.{Device, Trace, Lines, Memory}
use Rattle.recon_cli.specs.Making.{StaysPastBase}
use Rattle.recon_cli.specs.Run.{HasStatusCause, HasTurnCause, faults_are}
use Rattle.recon_cli.specs.Status.{fault_status}

-- all was written, and then a flush failed
pub whole_left : (first mid last : Option (List ℕ)) (len : ℕ) (bytes : List ℕ) → IfSome first (λ image. length image ≡ len) → length bytes ≤ len
    → mid ≡ option_map (λ image. written image 0 bytes) first → last ≡ mid
    → IfSome first (λ image. IsSomeAnd last (StaysOutside 0 (length bytes) image))
whole_left None mid last len bytes size fits is same = tt
whole_left (Some image) mid last len bytes size fits is same =
    let now : last ≡ Some (written image 0 bytes) = same ∙ is in
    let stays : StaysOutside 0 (length bytes) image (written image 0 bytes) = record {
      same_length = length-written image bytes 0 (omega arith);
      others = λ i out. get-written_behind image bytes 0 i (omega arith) (elim out [ inl low ↦ absurd (omega arith) | inr high ↦ high ]);
    } in
    subst (λ o. IsSomeAnd o (StaysOutside 0 (length bytes) image)) (sym now) stays

-- bytes past the base image stay
past_base : (image left : List ℕ) (n : ℕ) → n ≡ 33554432 → StaysOutside 0 n image left → StaysPastBase image left
past_base image left n is h = record {
  same_length = h.same_length;
  past = ext_get_or 0 (drop 33554432 left) (drop 33554432 image) (length-drop 33554432 left ∙ ap (λ k. k - 33554432) h.same_length ∙ sym (length-drop 33554432 image))
      (λ i low. get_or-drop 33554432 left i 0 ∙ h.others (33554432 + i) (inr (omega arith)) ∙ sym (get_or-drop 33554432 image i 0));
}

some_weaker : {A : Type 0} (P Q : A → Type 0) (o : Option A) → ((x : A) → P x → Q x) → IsSomeAnd o P → IsSomeAnd o Q
some_weaker P Q None f h = h
some_weaker P Q (Some x) f h = f x h

pub past_base_of : (first mid last : Option (List ℕ)) (n : ℕ) → mid ≡ first → n ≡ 33554432 → IfSome mid (λ image. IsSomeAnd last (StaysOutside 0 n image))
    → IfSome first (λ image. IsSomeAnd last (StaysPastBase image))
past_base_of None mid last n same is h = tt
past_base_of (Some image) mid last n same is h =
    some_weaker (StaysOutside 0 n image) (StaysPastBase image) last (λ left stays. past_base image left n is stays) (subst (λ o. IfSome o (λ i. IsSomeAnd last (StaysOutside 0 n i))) same h)

-- a make that stops early leaves the counts of faults as its status says
pub stops_with_cause : (disk disk' source sink sink' : ℕ) (run_fault : RunFault) → HasTurnCause {T = ℕ} disk disk' sink sink' (Err run_fault)
    → HasStatusCause (faults_are disk source sink) (faults_are disk' source sink') (fault_status run_fault)
stops_with_cause disk disk' source sink sink' Device h = record { disk = h.0; source = refl; sink = h.1 }
stops_with_cause disk disk' source sink sink' Trace h = absurd h
stops_with_cause disk disk' source sink sink' Lines h = record { disk = h.0; source = refl; sink = h.1 }
stops_with_cause disk disk' source sink sink' Memory h = record { disk = h.0; source = refl; sink = h.1 }
