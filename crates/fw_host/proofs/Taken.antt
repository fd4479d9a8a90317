-- Which campaigns were seen to be taken, or to be cancelled.
use Rattle.std.proofs.Common.{◌≡◌, ℕ, ◌+◌, ◌<◌, List, All, Contains, take, length, subst, sym}
use Rattle.std.specs.Prelude.{slice_index_or}
use Rattle.std.proofs.lemmas.List.{take_more}
use Rattle.std.proofs.lemmas.List.Elements.{All-push, Contains-get_or}
use Rattle.fw_book.specs.Contents.{Contents}
use Rattle.fw_book.specs.declared.error.BookError.{BookError}
use Rattle.fw_plan.specs.Openings.{PartsRefused as NoParts}
use Rattle.fw_plan.specs.declared.error.PlanError.{PlanError}
use Rattle.fw_plan.specs.declared.error.PlanError.TheVariants as plan
use Rattle.fw_host.specs.Openings.{PartsRefused, RefusesCancel, RefusesOneCancel}

-- a campaign more
pub one_more : {X : Type 0} (P : X → Type 0) (xs : List X) (i : ℕ) (x : X) → P x → i < length xs → All P (take i xs)
    → slice_index_or xs i x ≡ x → All P (take (i + 1) xs)
one_more {X} P xs i x is within so_far at =
    rw (take_more xs i x within) (All-push P (take i xs) (slice_index_or xs i x) so_far (subst P (sym at) is))

-- one of them
pub one_within : {X : Type 0} (xs : List X) (i : ℕ) (x : X) → i < length xs → slice_index_or xs i x ≡ x → Contains xs x
one_within {X} xs i x within at = subst (Contains xs) at (Contains-get_or xs i x within)

-- one that is refused is one of them
pub cancel_within : (book : Contents) (serials : List ℕ) (i serial : ℕ) (e : BookError) → i < length serials → RefusesCancel book serial e
    → slice_index_or serials i serial ≡ serial → RefusesOneCancel book serials e
cancel_within book serials i serial e within refused at = record { serial = serial; within = one_within serials i serial within at; refused = refused }

-- why no campaigns are planned, which may want memory before
pub parts_refused : (book : Contents) (serial : ℕ) (meters : List ℕ) (e : PlanError) → NoParts book serial meters e → PartsRefused book serial meters e
parts_refused book serial meters plan.NoSerial is = is
parts_refused book serial meters plan.OutOfMemory is = tt
