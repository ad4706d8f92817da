-- Laws of options and results.
use Rattle.std.proofs.Common.{◌≡◌, Bool, false, refl}
use Rattle.std.specs.Prelude.{Option, Some, None, Result, Ok, Err, IfOk, OnOk, OnErr, is_some}

pub some_is : {A : Type 0} (a b : A) → Some a ≡ Some b → a ≡ b
some_is a b is = cc

pub none_is : {A : Type 0} (found : Option A) → is_some found ≡ false → found ≡ None
none_is None is = refl
none_is (Some x) is = cc

-- what an Ok says, in other words
pub each_ok : {T E : Type 0} {P Q : T → Type 0} (r : Result T E) → ((x : T) → P x → Q x) → IfOk r P → IfOk r Q
each_ok (Ok x) f h = f x h
each_ok (Err e) f h = tt

-- what follows from a fact of an answer
pub on_ok : {T E A B : Type 0} (r : Result T E) → OnOk r A → (A → B) → OnOk r B
on_ok (Ok x) a gives = gives a
on_ok (Err e) a gives = tt

pub ok_follows : {A E P Q : Type 0} (result : Result A E) → (P → Q) → OnOk result P → OnOk result Q
ok_follows (Ok a) follows is = follows is
ok_follows (Err e) follows is = is

pub on_both : {T E A B C : Type 0} (r : Result T E) → OnOk r A → OnOk r B → (A → B → C) → OnOk r C
on_both (Ok x) a b gives = gives a b
on_both (Err e) a b gives = tt

pub on_err : {A E P : Type 0} (result : Result A E) → P → OnErr result P
on_err (Ok a) is = tt
on_err (Err e) is = is
