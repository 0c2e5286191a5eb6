use Rattle.std.proofs.Common.{◌≡◌, Result, Ok, Err, subst}
use Rattle.std.specs.Prelude.{IfOk, OnErr, OnOk}

-- What holds of a result either way.

pub either_way : {T E : Type 0} (r : Result T E) (A B C : Type 0) → OnOk r A → OnErr r B → (A → C) → (B → C) → C
either_way (Ok x) A B C ok err f g = f ok
either_way (Err e) A B C ok err f g = g err

pub on_ok : {T E : Type 0} (r : Result T E) (A B : Type 0) → OnOk r A → (A → B) → OnOk r B
on_ok (Ok x) A B ok f = f ok
on_ok (Err e) A B ok f = ok

pub on_err : {T E : Type 0} (r : Result T E) (A B : Type 0) → OnErr r A → (A → B) → OnErr r B
on_err (Ok x) A B err f = err
on_err (Err e) A B err f = f err

pub by_ok : {T E : Type 0} (r : Result T E) (P : T → Type 0) (B C : Type 0) → IfOk r P → OnErr r B → ((x : T) → P x → C) → (B → C) → C
by_ok (Ok x) P B C ok err f g = f x ok
by_ok (Err e) P B C ok err f g = g err

pub at_ok : {T E : Type 0} (r : Result T E) (P : T → Type 0) (x : T) → IfOk r P → r ≡ Ok x → P x
at_ok {T} {E} r P x ok is = let Q : Result T E → Type 0 = λ y. IfOk y P in subst Q is ok
