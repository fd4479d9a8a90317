-- The rows that no list has, and the meters of a range, with those of one campaign more.
use Rattle.std.proofs.Common.{◌≡◌, ℕ, Bool, List, ◌∷◌, ◌++◌, sym, ap, ◌∙◌, append_assoc}
use Rattle.fw_book.specs.declared.row.Row.{Row}
use Rattle.fw_book.specs.Contents.{Offered}
use Rattle.fw_plan.specs.declared.absent.UnlistedRow.{UnlistedRow}
use Rattle.fw_plan.specs.Meters.{live_in, live_within}
use Rattle.fw_plan.specs.Openings.{unlisted_in, unlisted_rows}

pub unlisted_more : (f : ℕ → Bool) (old new : List UnlistedRow) (serial : ℕ) (offer : Offered) (rows : List Row) (left rest campaigns : List (ℕ × Offered))
    → left ≡ (serial, offer) ∷ rest → rows ≡ offer.rows → new ≡ old ++ unlisted_rows f serial rows
    → old ++ unlisted_in f left ≡ unlisted_in f campaigns → new ++ unlisted_in f rest ≡ unlisted_in f campaigns
unlisted_more f old new serial offer rows left rest campaigns next same added so_far =
    ap (λ (l : List UnlistedRow). l ++ unlisted_in f rest) (added ∙ ap (λ (rs : List Row). old ++ unlisted_rows f serial rs) same)
    ∙ append_assoc old (unlisted_rows f serial offer.rows) (unlisted_in f rest)
    ∙ ap (λ (l : List (ℕ × Offered)). old ++ unlisted_in f l) (sym next)
    ∙ so_far

pub live_more : (first last : ℕ) (old new all : List ℕ) (serial : ℕ) (offer : Offered) (rows : List Row) (left rest : List (ℕ × Offered))
    → left ≡ (serial, offer) ∷ rest → rows ≡ offer.rows → new ≡ old ++ live_within first last rows
    → old ++ live_in first last left ≡ all → new ++ live_in first last rest ≡ all
live_more first last old new all serial offer rows left rest next same added so_far =
    ap (λ (l : List ℕ). l ++ live_in first last rest) (added ∙ ap (λ (rs : List Row). old ++ live_within first last rs) same)
    ∙ append_assoc old (live_within first last offer.rows) (live_in first last rest)
    ∙ ap (λ (l : List (ℕ × Offered)). old ++ live_in first last l) (sym next)
    ∙ so_far
