-- What a call that posts leaves of a list.
use Rattle.std.specs.Prelude.{◌≡◌, ℕ, ◌<◌, List, [], ◌∷◌, ◌++◌, length, take, Result, Ok, Err, OnOk, OnErr}
use Rattle.verdict.specs.declared.bytes.NoMemory.{NoMemory}
use Rattle.accounts.specs.declared.postings.Posting.{Posting}

-- Fewer than all of some postings, the first of them, stand behind the old list.
pub record StandInPart (old new postings : List Posting) : Type 0 where
  pub count : ℕ
  pub fewer : count < length postings
  pub front : new ≡ old ++ take count postings

-- These postings stand behind the old list; out of memory, fewer of them do, so that a call that posts nothing takes no memory.
pub record Posts {T E : Type 0} (old new : List Posting) (result : Result T E) (postings : List Posting) : Type 0 where
  pub all : OnOk result (new ≡ old ++ postings)
  pub some : OnErr result (StandInPart old new postings)

-- The old list stands in front of the new one.
abbrev pub StandsInFront : List Posting → List Posting → Type 0
StandsInFront old new = (rest : List Posting) × (new ≡ old ++ rest)

-- Where something holds, these postings stand behind the old list as above; the old list stands in front also where it does not hold.
pub record PostsWhere {T E : Type 0} (holds : Type 0) (old new : List Posting) (result : Result T E) (postings : List Posting) : Type 0 where
  pub posts : holds → Posts old new result postings
  pub front : StandsInFront old new

-- what a call that posts gives
abbrev pub Done : Type 0
Done = Result (Unit {0}) NoMemory

-- What calls that post leave of something goes together: no postings leave it as it was; some, and then others, leave what all of them do;
-- where some fail, so do they with others behind them; and a call may fail before it posts the first.
pub record Passes {S : Type 0} (leaves : S → S → Done → List Posting → Type 0) : Type 0 where
  pub none : (now : S) → leaves now now (Ok tt) []
  pub more : (old mid new : S) (result : Done) (first later : List Posting)
      → leaves old mid (Ok tt) first → leaves mid new result later → leaves old new result (first ++ later)
  pub cut : (old new : S) (before fault : NoMemory) (first later : List Posting)
      → leaves old new (Err before) first → leaves old new (Err fault) (first ++ later)
  pub missed : (now : S) (fault : NoMemory) (first : Posting) (later : List Posting) → leaves now now (Err fault) (first ∷ later)
