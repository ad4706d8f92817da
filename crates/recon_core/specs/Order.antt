-- In which calls the bytes of a passed event go out to the device, and in which order.
use Rattle.std.specs.Prelude.{ℕ, ◌≡◌, ◌-◌, ◌<◌, ◌≤◌, ◌↔◌, ◌⊎◌, Bool, true, false, IsTrue, List, [], ◌∷◌, ◌++◌, take, drop, max, Option, IfSome, IsSome}
use Rattle.std.specs.List.{flat_map}
use Rattle.std.specs.Ordering.{nat_cmp}
use Rattle.std.specs.FinMap.{FinMap, get}
use Rattle.verdict.specs.Image.{range}
use Rattle.verdict.specs.declared.machine.Answer.{Answer}
use Rattle.verdict.specs.declared.machine.Answer.TheVariants.{Passed}
use Rattle.verdict.specs.declared.machine.Event.{Event}
use Rattle.verdict.specs.declared.machine.Event.TheVariants.{Write}
use Rattle.recon_disk.specs.Calls.{Sent, Wrote, Flushed, and_sent, run_calls, HasSentFront}
use Rattle.write_cache.specs.Cache.{overlaid, with_bytes}
use Rattle.write_cache.specs.Pieces.{Piece, ArePiecesOf}

-- the runs of a piece outside the superblock place, bytes 65536 to 69631: the one before it, and the one behind it
unfoldable pub piece_calls : ℕ → List ℕ → List Sent
piece_calls at bytes = run_calls at (take (65536 - at) bytes) ++ run_calls (max 69632 at) (drop (69632 - at) bytes)

-- those of all pieces, one piece after the other
abbrev pub pieces_calls : List Piece → List Sent
pieces_calls pieces = flat_map (λ piece. piece_calls piece.at piece.bytes) pieces

-- what follows the runs: a flush, and on a commit the whole place in one call and a flush again
abbrev pub closing_calls : Bool → List ℕ → List Sent
closing_calls false place = Flushed ∷ []
closing_calls true place = Flushed ∷ Wrote 65536 place ∷ Flushed ∷ []

-- a byte of the superblock place waits
abbrev pub WaitsInPlace : FinMap nat_cmp ℕ → Type 0
WaitsInPlace waiting = (i : ℕ) × (65536 ≤ i) × (i < 69632) × IsSome (get waiting i)

-- The calls that send out what waits: its maximal runs outside the superblock place in rising order, and what follows
-- them. It is a commit where a byte of the place waits, and the place's bytes are those of the judged image.
pub record AreCallsOf (waiting : FinMap nat_cmp ℕ) (judged : List ℕ) (calls : List Sent) : Type 0 where
  pub pieces : List Piece
  pub runs : ArePiecesOf waiting pieces
  pub commit : Bool
  pub place : IsTrue commit ↔ WaitsInPlace waiting
  pub order : calls ≡ pieces_calls pieces ++ closing_calls commit (range 65536 4096 judged)

-- exactly these calls were sent, in their order
abbrev pub HasSentOut : FinMap nat_cmp ℕ → List ℕ → Option (List Sent) → Option (List Sent) → Type 0
HasSentOut waiting judged before now = (calls : List Sent) × AreCallsOf waiting judged calls × (now ≡ and_sent before calls)

-- What was sent where a call failed: nothing, or a front of the calls that send out what waits. The calls are said of the disk's image, where
-- it is told, and where this holds of it.
unfoldable pub HasSentPart : (List ℕ → Type 0) → FinMap nat_cmp ℕ → Option (List ℕ) → Option (List Sent) → Option (List Sent) → Type 0
HasSentPart IsOf waiting bytes before now =
    (now ≡ before)
    ⊎ IfSome bytes (λ image. IsOf image → (calls : List Sent) × AreCallsOf waiting (overlaid waiting 0 image) calls × HasSentFront calls before now)

-- all that waits when an event is judged: a commit's own bytes lie over the others
abbrev pub judged_with : FinMap nat_cmp ℕ → Event → FinMap nat_cmp ℕ
judged_with waiting (Write submitter at bytes) = with_bytes waiting at bytes
judged_with waiting _ = waiting

-- What an answer sent to a disk that held these bytes, where it tells them and this holds of them: with `Passed` what waits went out. With
-- any other answer nothing was sent.
unfoldable pub HasSentBy : (List ℕ → Type 0) → Answer → FinMap nat_cmp ℕ → Option (List ℕ) → Option (List Sent) → Option (List Sent) → Type 0
HasSentBy IsOf (Passed generation blocks hot) waiting bytes before now =
    IfSome bytes (λ image. IsOf image → HasSentOut waiting (overlaid waiting 0 image) before now)
HasSentBy IsOf _ waiting bytes before now = now ≡ before
