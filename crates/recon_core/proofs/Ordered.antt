-- The calls that went out so far, with those that are left, are all of them.
use Rattle.std.proofs.Common.{◌≡◌, ℕ, ◌+◌, ◌-◌, ◌↔◌, inl, inr, min, max, Bool, true, false, IsTrue, List, [], ◌∷◌, ◌++◌, length, take, drop, Option, Some, None, IfSome, refl, sym, ap, ◌∙◌, arith, subst}
use Rattle.std.specs.Ordering.{nat_cmp}
use Rattle.std.specs.FinMap.{FinMap}
use Rattle.std.proofs.lemmas.Bool.{cases_lt}
use Rattle.std.proofs.lemmas.List.{take_all, length-drop}
use Rattle.verdict.specs.Image.{range}
use Rattle.recon_disk.specs.Calls.{Sent, Wrote, Flushed, and_sent, run_calls, HasSentFront}
use Rattle.write_cache.specs.Cache.{overlaid}
use Rattle.write_cache.specs.Pieces.{Piece, ArePiecesOf}
use Rattle.recon_core.specs.Order.{piece_calls, closing_calls, HasSentOut, HasSentPart, WaitsInPlace, pieces_calls}
use Rattle.recon_disk.specs.Calls.{run_calls, HasSentFront}
use Rattle.recon_core.specs.Sent.{HasSentRuns, HasSentSomeRuns, IsPlaceOf}
use Rattle.recon_disk.proofs.Sending.{SentSoFar, each_sent, front_first, front_second, no_run, none_sent, part_more, sent_none, sent_then, some_sent}

-- the two runs of a piece
take_few : (n : ℕ) (bytes : List ℕ) → take (min n (length bytes)) bytes ≡ take n bytes
take_few n bytes = elim (cases_lt (length bytes) n) [
  | inl few ↦ take_all (min n (length bytes)) bytes (omega arith) ∙ sym (take_all n bytes (omega arith))
  | inr more ↦ ap (λ k. take k bytes) (omega arith)
]

run_behind : (at : ℕ) (bytes : List ℕ) → run_calls (at + min (69632 - at) (length bytes)) (drop (min (69632 - at) (length bytes)) bytes) ≡ run_calls (max 69632 at) (drop (69632 - at) bytes)
run_behind at bytes = elim (cases_lt (69632 - at) (length bytes)) [
  | inl more ↦ ap (λ k. run_calls (at + k) (drop k bytes)) (omega arith) ∙ ap (λ k. run_calls k (drop (69632 - at) bytes)) (omega arith)
  | inr few ↦ no_run _ _ (length-drop (min (69632 - at) (length bytes)) bytes ∙ omega arith) ∙ sym (no_run _ _ (length-drop (69632 - at) bytes ∙ omega arith))
]

-- a piece's calls are those of its two runs
piece_is : (at spot : ℕ) (bytes front rest : List ℕ) → front ≡ take (min (65536 - at) (length bytes)) bytes → rest ≡ drop (min (69632 - at) (length bytes)) bytes
    → spot ≡ at + min (69632 - at) (length bytes) → piece_calls at bytes ≡ run_calls at front ++ run_calls spot rest
unfolding piece_calls
piece_is at spot bytes front rest f r s =
    ap (λ calls. run_calls at (take (65536 - at) bytes) ++ calls) (sym (run_behind at bytes))
    ∙ ap (λ k. run_calls at (take (65536 - at) bytes) ++ run_calls k (drop (min (69632 - at) (length bytes)) bytes)) (sym s)
    ∙ ap (λ p. run_calls at (take (65536 - at) bytes) ++ run_calls spot p) (sym r)
    ∙ ap (λ p. run_calls at p ++ run_calls spot rest) (sym (f ∙ take_few (65536 - at) bytes))

pub piece_out : (first mid last : Option (List Sent)) (at spot : ℕ) (bytes front rest : List ℕ)
    → front ≡ take (min (65536 - at) (length bytes)) bytes → rest ≡ drop (min (69632 - at) (length bytes)) bytes → spot ≡ at + min (69632 - at) (length bytes)
    → mid ≡ and_sent first (run_calls at front) → last ≡ and_sent mid (run_calls spot rest)
    → last ≡ and_sent first (piece_calls at bytes)
piece_out first mid last at spot bytes front rest f r s m l =
    l ∙ ap (λ o. and_sent o (run_calls spot rest)) m
    ∙ sent_then first (run_calls at front) (run_calls spot rest)
    ∙ ap (and_sent first) (sym (piece_is at spot bytes front rest f r s))

-- one of its runs went out in part
pub front_in_part : (first last : Option (List Sent)) (at : ℕ) (bytes front : List ℕ) → front ≡ take (min (65536 - at) (length bytes)) bytes
    → HasSentFront (run_calls at front) first last → HasSentFront (piece_calls at bytes) first last
front_in_part first last at bytes front f h =
    let rest : List ℕ = drop (min (69632 - at) (length bytes)) bytes in
    let spot : ℕ = at + min (69632 - at) (length bytes) in
    front_first first last (run_calls at front) (run_calls spot rest) (piece_calls at bytes) (piece_is at spot bytes front rest f refl refl) h

pub rest_in_part : (first mid last : Option (List Sent)) (at spot : ℕ) (bytes front rest : List ℕ)
    → front ≡ take (min (65536 - at) (length bytes)) bytes → rest ≡ drop (min (69632 - at) (length bytes)) bytes → spot ≡ at + min (69632 - at) (length bytes)
    → mid ≡ and_sent first (run_calls at front) → HasSentFront (run_calls spot rest) mid last
    → HasSentFront (piece_calls at bytes) first last
rest_in_part first mid last at spot bytes front rest f r s m h =
    front_second first mid last (run_calls at front) (run_calls spot rest) (piece_calls at bytes) (piece_is at spot bytes front rest f r s) m h

-- of the calls of a map's pieces a front was sent, and those of these pieces are left
pub record RunsLeft (m : FinMap nat_cmp ℕ) (first now : Option (List Sent)) (left : List Piece) : Type 0 where
  pub all : List Piece
  pub of_map : ArePiecesOf m all
  pub so : SentSoFar first now (pieces_calls all) (pieces_calls left)

pub runs_begin : (m : FinMap nat_cmp ℕ) (first : Option (List Sent)) (pieces : List Piece) → ArePiecesOf m pieces → RunsLeft m first first pieces
runs_begin m first pieces are = record { all = pieces; of_map = are; so = none_sent first (pieces_calls pieces) (pieces_calls pieces) refl }

pub runs_more : (m : FinMap nat_cmp ℕ) (first now last : Option (List Sent)) (p : Piece) (left : List Piece) → RunsLeft m first now (p ∷ left)
    → last ≡ and_sent now (piece_calls p.at p.bytes) → RunsLeft m first last left
runs_more m first now last p left runs h = record {
  all = runs.all;
  of_map = runs.of_map;
  so = some_sent first now last (pieces_calls runs.all) (piece_calls p.at p.bytes) (pieces_calls left) runs.so h;
}

pub runs_end : (m : FinMap nat_cmp ℕ) (first now : Option (List Sent)) (left : List Piece) → left ≡ [] → RunsLeft m first now left → HasSentRuns m first now
runs_end m first now left none runs = (runs.all, runs.of_map, each_sent first now (pieces_calls runs.all) (pieces_calls left) (ap pieces_calls none) runs.so)

pub runs_in_part : (m : FinMap nat_cmp ℕ) (first now last : Option (List Sent)) (p : Piece) (left : List Piece) → RunsLeft m first now (p ∷ left)
    → HasSentFront (piece_calls p.at p.bytes) now last → HasSentSomeRuns m first last
runs_in_part m first now last p left runs h =
    (runs.all, runs.of_map, part_more first now last (pieces_calls runs.all) (piece_calls p.at p.bytes) (pieces_calls left) runs.so h)

pub is_false : (b : Bool) → b ≡ false → (P : Type 0) → IsTrue b ↔ P → IsTrue false ↔ P
is_false b e P says = subst (λ x. IsTrue x ↔ P) e says

-- a settle's calls: the runs and a flush
pub settled_out : (bytes : Option (List ℕ)) (m : FinMap nat_cmp ℕ) (place : List ℕ) (first mid last : Option (List Sent)) (b : Bool) → b ≡ false → IsTrue b ↔ WaitsInPlace m
    → HasSentRuns m first mid → last ≡ and_sent mid (Flushed ∷ [])
    → IfSome bytes (λ image. IsPlaceOf m place image → HasSentOut m (overlaid m 0 image) first last)
settled_out None m place first mid last b e says runs h = tt
settled_out (Some image) m place first mid last b e says runs h = λ right. (
  pieces_calls runs.0 ++ closing_calls false [],
  record { pieces = runs.0; runs = runs.1; commit = false; place = is_false b e (WaitsInPlace m) says; order = refl },
  h ∙ ap (λ o. and_sent o (Flushed ∷ [])) runs.2 ∙ sent_then first (pieces_calls runs.0) (Flushed ∷ []),
)

-- a commit's calls: the runs, a flush, the place and a flush
pub committed_out : (bytes : Option (List ℕ)) (m : FinMap nat_cmp ℕ) (first mid flushed placed last : Option (List Sent)) (place : List ℕ) (b : Bool) → b ≡ true → IsTrue b ↔ WaitsInPlace m
    → HasSentRuns m first mid → flushed ≡ and_sent mid (Flushed ∷ []) → placed ≡ and_sent flushed (Wrote 65536 place ∷ []) → last ≡ and_sent placed (Flushed ∷ [])
    → IfSome bytes (λ image. IsPlaceOf m place image → HasSentOut m (overlaid m 0 image) first last)
committed_out None m first mid flushed placed last place b e says runs f w h = tt
committed_out (Some image) m first mid flushed placed last place b e says runs f w h = λ right.
    let calls : List Sent = pieces_calls runs.0 in (
      calls ++ closing_calls true (range 65536 4096 (overlaid m 0 image)),
      record { pieces = runs.0; runs = runs.1; commit = true; place = subst (λ x. IsTrue x ↔ WaitsInPlace m) e says; order = refl },
      h ∙ ap (λ o. and_sent o (Flushed ∷ [])) w
          ∙ sent_then flushed (Wrote 65536 place ∷ []) (Flushed ∷ [])
          ∙ ap (λ o. and_sent o (Wrote 65536 place ∷ Flushed ∷ [])) f
          ∙ sent_then mid (Flushed ∷ []) (Wrote 65536 place ∷ Flushed ∷ [])
          ∙ ap (λ o. and_sent o (Flushed ∷ Wrote 65536 place ∷ Flushed ∷ [])) runs.2
          ∙ sent_then first calls (Flushed ∷ Wrote 65536 place ∷ Flushed ∷ [])
          ∙ ap (λ x. and_sent first (calls ++ (Flushed ∷ Wrote 65536 x ∷ Flushed ∷ []))) right,
    )

-- where a call failed: at the runs, or behind them with these sent and the others left
pub out_in_part : (bytes : Option (List ℕ)) (IsOf : List ℕ → Type 0) (m : FinMap nat_cmp ℕ) (first last : Option (List Sent)) (b : Bool) → IsTrue b ↔ WaitsInPlace m
    → HasSentSomeRuns m first last → HasSentPart IsOf m bytes first last
unfolding HasSentPart
out_in_part None IsOf m first last b says runs = inr tt
out_in_part (Some image) IsOf m first last b says runs =
    let after : List Sent = closing_calls b (range 65536 4096 (overlaid m 0 image)) in
    inr (λ right. (
      pieces_calls runs.0 ++ after,
      record { pieces = runs.0; runs = runs.1; commit = b; place = says; order = refl },
      front_first first last (pieces_calls runs.0) after (pieces_calls runs.0 ++ after) refl runs.2,
    ))

closing_part : (bytes : Option (List ℕ)) (IsOf : List ℕ → Type 0) (m : FinMap nat_cmp ℕ) (first mid last : Option (List Sent)) (b : Bool) → IsTrue b ↔ WaitsInPlace m
    → HasSentRuns m first mid
    → IfSome bytes (λ image. IsOf image → HasSentFront (closing_calls b (range 65536 4096 (overlaid m 0 image))) mid last) → HasSentPart IsOf m bytes first last
unfolding HasSentPart
closing_part None IsOf m first mid last b says runs h = inr tt
closing_part (Some image) IsOf m first mid last b says runs h =
    let after : List Sent = closing_calls b (range 65536 4096 (overlaid m 0 image)) in
    inr (λ right. (
      pieces_calls runs.0 ++ after,
      record { pieces = runs.0; runs = runs.1; commit = b; place = says; order = refl },
      front_second first mid last (pieces_calls runs.0) after (pieces_calls runs.0 ++ after) refl runs.2 (h right),
    ))

if_each : {P : List ℕ → Type 0} (o : Option (List ℕ)) → ((x : List ℕ) → P x) → IfSome o P
if_each None f = tt
if_each (Some x) f = f x

-- the flush behind the runs failed
pub flush_fails : (bytes : Option (List ℕ)) (IsOf : List ℕ → Type 0) (m : FinMap nat_cmp ℕ) (first mid last : Option (List Sent)) (b : Bool) → IsTrue b ↔ WaitsInPlace m
    → HasSentRuns m first mid → last ≡ mid → HasSentPart IsOf m bytes first last
flush_fails bytes IsOf m first mid last b says runs h =
    closing_part bytes IsOf m first mid last b says runs (if_each bytes (λ image right. ([], closing_calls b (range 65536 4096 (overlaid m 0 image)), refl, h ∙ sym (sent_none mid))))

-- the write of the place failed, or the last flush
pub place_write_fails : (bytes : Option (List ℕ)) (IsOf : List ℕ → Type 0) (m : FinMap nat_cmp ℕ) (first mid flushed last : Option (List Sent)) (b : Bool) → b ≡ true → IsTrue b ↔ WaitsInPlace m
    → HasSentRuns m first mid → flushed ≡ and_sent mid (Flushed ∷ []) → last ≡ flushed → HasSentPart IsOf m bytes first last
place_write_fails bytes IsOf m first mid flushed last b e says runs f h =
    closing_part bytes IsOf m first mid last b says runs (if_each bytes (λ image right.
    (Flushed ∷ [], Wrote 65536 (range 65536 4096 (overlaid m 0 image)) ∷ Flushed ∷ [], ap (λ x. closing_calls x (range 65536 4096 (overlaid m 0 image))) e, h ∙ f)))

pub last_flush_fails : (bytes : Option (List ℕ)) (m : FinMap nat_cmp ℕ) (first mid flushed placed last : Option (List Sent)) (place : List ℕ) (b : Bool) → b ≡ true → IsTrue b ↔ WaitsInPlace m
    → HasSentRuns m first mid → flushed ≡ and_sent mid (Flushed ∷ []) → placed ≡ and_sent flushed (Wrote 65536 place ∷ []) → last ≡ placed
    → HasSentPart (IsPlaceOf m place) m bytes first last
last_flush_fails bytes m first mid flushed placed last place b e says runs f w h =
    closing_part bytes (IsPlaceOf m place) m first mid last b says runs (if_each bytes (λ image right. (
      Flushed ∷ Wrote 65536 (range 65536 4096 (overlaid m 0 image)) ∷ [],
      Flushed ∷ [],
      ap (λ x. closing_calls x (range 65536 4096 (overlaid m 0 image))) e,
      h ∙ w ∙ ap (λ o. and_sent o (Wrote 65536 place ∷ [])) f ∙ sent_then mid (Flushed ∷ []) (Wrote 65536 place ∷ [])
          ∙ ap (λ x. and_sent mid (Flushed ∷ Wrote 65536 x ∷ [])) right,
    )))
