use Rattle.std.proofs.Common.{◌≡◌, ◌++◌, ◌∙◌, ℕ, List, [], Option, Some, None, ap, inr, refl, subst}
use Rattle.std.proofs.lemmas.Result.{err_from_is_err_and}
use Rattle.fw_book.specs.Contents.{Contents}
use Rattle.fw_book.specs.Notes.{Known}
use Rattle.fw_kept.specs.Kept.{HasNotes, IsReadAs}
use Rattle.fw_kept.specs.declared.error.ReadingError.{ReadingError}
use Rattle.fw_kept.specs.declared.error.ReadingError.TheVariants as reading
use Rattle.fw_rows.specs.Noted.{Noted, noted_of_book}
use Rattle.fw_status.specs.Campaigns.{campaigns_of}
use Rattle.fw_status.specs.declared.campaign.CampaignStatus.{CampaignStatus}
use Rattle.fw_cli.specs.Heads.{HasStatus, SaysWhy, status_error}
use Rattle.fw_cli.specs.declared.status.StatusError.{StatusError}
use Rattle.fw_cli.proofs.Passing.{passed_to}
use Rattle.fw_cli.proofs.status.reading_of.Goals as goal

has_status : (bytes : List ℕ) (found : Option Contents) (book : Contents) (known : Known) (none campaigns : List CampaignStatus) (old rows : List Noted)
    → IsReadAs bytes found → HasNotes bytes known → found ≡ Some book → none ≡ [] → campaigns ≡ none ++ campaigns_of known book
    → old ≡ [] → rows ≡ old ++ noted_of_book known book → HasStatus bytes campaigns rows
has_status bytes found book known none campaigns old rows read notes is empty all start e =
    let has = subst (IsReadAs bytes) is read in
    inr (
      book,
      known,
      has.0,
      notes,
      all ∙ ap (λ (xs : List CampaignStatus). xs ++ campaigns_of known book) empty,
      e ∙ ap (λ (xs : List Noted). xs ++ noted_of_book known book) start,
    )

pub returns-clause-status : goal.returns-clause-status
returns-clause-status c =
    has_status c.args.bytes.now _ c.in-Some.book _ c.new-campaigns.result.items c.push_campaigns.new.campaigns.items c.new-rows.result.items
    c.push_noted.new.rows.items c.in_ok-book.ensures.found c.in_ok-book.ensures.noted c.in-Some.is c.new-campaigns.ensures.items
    c.in_ok-push_campaigns.ensures c.new-rows.ensures.items c.in_ok-push_noted.ensures

-- bytes that hold no book are no file that isn't read
no_reason : (e : ReadingError) → SaysWhy (status_error e) None
no_reason (reading.BadBook offset) = refl
no_reason (reading.BadRecord index) = refl
no_reason reading.OutOfMemory = refl

pub returns-in_err-book-clause-reason : goal.returns-in_err-book-clause-reason
returns-in_err-book-clause-reason c =
    let passed = err_from_is_err_and c.from_residual.result c.from_residual.ensures.1 in
    passed_to c.from_residual.result (λ (e : StatusError). SaysWhy e None) passed.0 _ passed.1 passed.2 (no_reason _)
