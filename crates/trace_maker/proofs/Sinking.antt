-- What a sink has gained after a call that failed, or did not, behind calls that did not.
use Rattle.std.proofs.Common.{◌≡◌, ℕ, ◌+◌, List, [], ◌∷◌, ◌++◌, length, take, Option, Some, None, refl, sym, ap, ◌∙◌, subst, append_assoc, append-nil, length-append, arith}
use Rattle.std.specs.Option.{option_map}
use Rattle.std.specs.List.{All}
use Rattle.std.proofs.lemmas.List.{take-append-le, take_all}
use Rattle.std.proofs.Math.Seq.{take-append-add}
use Rattle.verdict.specs.declared.machine.Event.{Event}
use Rattle.recon_disk.specs.Outside.{MayBeAppended}
use Rattle.trace_reader.specs.Trace.{IsSpelled, header_bytes, spelling_of_all}
use Rattle.trace_maker.specs.Made.{Gained, IsFront}

-- where a sink tells its bytes, these stand behind them
abbrev pub and_then : Option (List ℕ) → List ℕ → Option (List ℕ)
and_then kept bytes = option_map (λ k. k ++ bytes) kept

pub and_nothing : (kept : Option (List ℕ)) → kept ≡ and_then kept []
and_nothing None = refl
and_nothing (Some k) = ap (λ (r : List ℕ). Some r) (sym (append-nil k))

pub and_then_both : (kept mid after : Option (List ℕ)) (a b : List ℕ) → mid ≡ and_then kept a → after ≡ and_then mid b → after ≡ and_then kept (a ++ b)
and_then_both None mid after a b e f = f ∙ ap (λ (k : Option (List ℕ)). and_then k b) e
and_then_both (Some k) mid after a b e f =
    f ∙ ap (λ (k : Option (List ℕ)). and_then k b) e ∙ ap (λ (r : List ℕ). Some r) (append_assoc k a b)

pub whole_appended : (kept after : Option (List ℕ)) (a : List ℕ) → after ≡ and_then kept a → MayBeAppended kept a after
whole_appended None after a e = e
whole_appended (Some k) after a e = (length a, omega arith, e ∙ ap (λ (r : List ℕ). Some (k ++ r)) (sym (take_all (length a) a (omega arith))))

pub more_appended : (kept after : Option (List ℕ)) (a b : List ℕ) → MayBeAppended kept a after → MayBeAppended kept (a ++ b) after
more_appended None after a b m = m
more_appended (Some k) after a b m =
    let size = length-append a b in
    let few = m.1 in
    (m.0, omega arith, m.2 ∙ ap (λ (r : List ℕ). Some (k ++ r)) (sym (take-append-le m.0 a b few)))

later_told : (k a b : List ℕ) (after : Option (List ℕ)) → MayBeAppended (Some (k ++ a)) b after → MayBeAppended (Some k) (a ++ b) after
later_told k a b after m =
    let size = length-append a b in
    let few = m.1 in (
      length a + m.0,
      omega arith,
      m.2 ∙ ap (λ (r : List ℕ). Some r) (append_assoc k a (take m.0 b) ∙ ap (λ (r : List ℕ). k ++ r) (sym (take-append-add a b m.0))),
    )

pub later_appended : (kept mid after : Option (List ℕ)) (a b : List ℕ) → mid ≡ and_then kept a → MayBeAppended mid b after → MayBeAppended kept (a ++ b) after
later_appended None mid after a b e m =
    let P : Option (List ℕ) → Type 0 = λ o. MayBeAppended o b after in
    subst P e m
later_appended (Some k) mid after a b e m =
    let P : Option (List ℕ) → Type 0 = λ o. MayBeAppended o b after in
    later_told k a b after (subst P e m)

-- a front of a trace is gained
pub front_gained : (kept after : Option (List ℕ)) (events : List Event) → All IsSpelled events
    → MayBeAppended kept (header_bytes ++ spelling_of_all events ++ 255 ∷ []) after → Gained IsFront kept after
front_gained None after events lawful m = m
front_gained (Some k) after events lawful m = (
  take m.0 (header_bytes ++ spelling_of_all events ++ 255 ∷ []),
  m.2,
  record { events = events; lawful = lawful; few = m.0; front = refl },
)
