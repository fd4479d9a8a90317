-- What holds on an error too.
use Rattle.std.specs.Prelude.{OnErr, Result, Ok, Err}

pub on_err : {A B : Type 0} (r : Result A B) (P : Type 0) → P → OnErr r P
on_err (Ok x) P h = tt
on_err (Err e) P h = h
