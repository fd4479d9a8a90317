-- Campaigns that are cancelled one after the other.
use Rattle.std.proofs.Common.{◌≡◌, ℕ, ◌+◌, ◌<◌, ◌≤◌, Bool, List, [], ◌∷◌, ◌++◌, ◌∙◌, Option, Some, None, drop, length, refl, sym, subst, ap, append_assoc, append-nil}
use Rattle.std.specs.Prelude.{IfSome, IsSomeAnd, is_some, slice_index_or, true}
use Rattle.std.proofs.lemmas.List.{drop_all, drop_more, map-append}
use Rattle.fw_book.specs.Changes.{cancel_refusal}
use Rattle.fw_book.specs.declared.error.BookError.{BookError}
use Rattle.fw_head.specs.Head.{Head, campaign_at, cancelled_head}
use Rattle.fw_journal.specs.declared.file.FileDevice.{FileDevice}
use Rattle.fw_kept.specs.Head.{book_of, head_of}
use Rattle.fw_kept.specs.Refusals.{IsRefusedFor}
use Rattle.fw_kept.specs.declared.error.KeptError.{KeptError}
use Rattle.fw_kept.specs.declared.error.KeptError.TheVariants as kept
use Rattle.fw_kept.specs.declared.head.KeptHead.{KeptHead}
use Rattle.fw_plan.specs.Ranges.{serials_of}
use Rattle.fw_plan.specs.declared.ranges.SerialRange.{SerialRange}
use Rattle.fw_host.specs.Heads.{cancelled_line}
use Rattle.fw_host.specs.Telling.{Told}
use Rattle.fw_host.specs.declared.error.BookFileError.{BookFileError}
use Rattle.fw_host.specs.declared.error.BookFileError.TheVariants as file
use Rattle.fw_host.proofs.Tellings.{told_none, told_on}
use Rattle.fw_cli.specs.Cancelling.{Cancels, HasCancelled, HasStopped, IsNotCancelledFor, IsOfCampaign, Stopped, StopsAt, cancel_of_book, cancel_of_kept, cancelled_all, cancelled_lines}
use Rattle.fw_cli.specs.declared.cancel.CancelError.{CancelError}
use Rattle.fw_cli.specs.declared.cancel.CancelError.TheVariants.{OutOfMemory}
use Rattle.fw_cli.specs.declared.cancel.CancelOptions.{CancelOptions}

-- one more is cancelled, after the others
pub cancels_more : (serials : List ℕ) (serial : ℕ) (head : Head) → cancelled_all (serials ++ serial ∷ []) head ≡ cancelled_head (cancelled_all serials head) serial
cancels_more [] serial head = refl
cancels_more (first ∷ serials) serial head = cancels_more serials serial (cancelled_head head first)

-- the head end has the same number then
same_number : (serials : List ℕ) (head : Head) → (cancelled_all serials head).book.head ≡ head.book.head
same_number [] head = refl
same_number (serial ∷ serials) head = same_number serials (cancelled_head head serial)

-- none is cancelled yet
pub cancels_none : (serials : List ℕ) (head : Head) (was : Bool) (a : Option (List ℕ)) → Cancels serials serials head head was was a a
cancels_none serials head was a = record { done = []; split = refl; cancelled = refl; told = told_none was a }

-- the next of a list
rest_at : (serials : List ℕ) (i serial : ℕ) → i < length serials → slice_index_or serials i serial ≡ serial → drop i serials ≡ serial ∷ drop (i + 1) serials
rest_at serials i serial within at = drop_more serials i serial within ∙ ap (λ (n : ℕ). n ∷ drop (i + 1) serials) at

-- it is cancelled, and its line is told
pub cancels_next : (serials : List ℕ) (i serial : ℕ) (found middle last : Head) (p q r : Bool) (a b c : Option (List ℕ)) → i < length serials
    → Cancels serials (drop i serials) found middle p q a b → last ≡ cancelled_head middle serial → Told (cancelled_line (campaign_at middle serial) ∷ []) q r b c
    → slice_index_or serials i serial ≡ serial → Cancels serials (drop (i + 1) serials) found last p r a c
cancels_next serials i serial found middle last p q r a b c within so_far one line at =
    let number : middle.book.head ≡ found.book.head = ap (λ (h : Head). h.book.head) so_far.cancelled ∙ same_number so_far.done found in
    let its : Told (cancelled_lines found.book.head (serial ∷ [])) q r b c =
    subst (λ (n : ℕ). Told (cancelled_lines n (serial ∷ [])) q r b c) number line in
    let more : cancelled_lines found.book.head (so_far.done ++ serial ∷ []) ≡ cancelled_lines found.book.head so_far.done ++ cancelled_lines found.book.head (serial ∷ []) =
    map-append (λ (s : ℕ). cancelled_line (record { head = found.book.head; serial = s })) so_far.done (serial ∷ []) in
    record {
      done = so_far.done ++ serial ∷ [];
      split = so_far.split ∙ ap (λ (l : List ℕ). so_far.done ++ l) (rest_at serials i serial within at) ∙ sym (append_assoc so_far.done (serial ∷ []) (drop (i + 1) serials));
      cancelled = one ∙ ap (λ (h : Head). cancelled_head h serial) so_far.cancelled ∙ sym (cancels_more so_far.done serial found);
      told = subst (λ (l : List (List ℕ)). Told l p r a c) (sym more)
          (told_on (cancelled_lines found.book.head so_far.done) (cancelled_lines found.book.head (serial ∷ [])) p q r a b c so_far.told its);
    }

-- none is left
pub cancels_all : (serials : List ℕ) (i : ℕ) (found last : Head) (p q : Bool) (a b : Option (List ℕ)) → length serials ≤ i → Cancels serials (drop i serials) found last p q a b
    → Cancels serials [] found last p q a b
cancels_all serials i found last p q a b past so_far = subst (λ (l : List ℕ). Cancels serials l found last p q a b) (drop_all i serials past) so_far

-- what the head end refuses it for is what the command does
not_cancelled : (refusal : Option BookError) (e : KeptError) → IsRefusedFor refusal e → IsNotCancelledFor refusal (cancel_of_kept e)
not_cancelled refusal (kept.Refused error) is = is
not_cancelled refusal kept.Full is = is
not_cancelled refusal kept.BookFault is = is
not_cancelled refusal kept.OutOfMemory is = is

-- the next is refused
pub stopped : (serials : List ℕ) (i serial : ℕ) (named : Option ℕ) (first : KeptError) (told : CancelError) (found middle last : Head) (p q r : Bool) (a b c : Option (List ℕ)) → i < length serials
    → Cancels serials (drop i serials) found middle p q a b → last ≡ middle → (r ≡ q) × (c ≡ b)
    → (1 ≤ serial → IsRefusedFor (cancel_refusal middle.book (campaign_at middle serial)) first) → named ≡ Some serial → told ≡ cancel_of_kept first → slice_index_or serials i serial ≡ serial
    → IsSomeAnd named (λ (it : ℕ). StopsAt serials it told found last p r a c)
stopped serials i serial named first told found middle last p q r a b c within so_far same (lost_same, text_same) refused is told_is at =
    let stops : StopsAt serials serial (cancel_of_kept first) found middle p q a b = record {
      others = drop (i + 1) serials;
      before_it = subst (λ (l : List ℕ). Cancels serials l found middle p q a b) (rest_at serials i serial within at) so_far;
      refused = λ some. not_cancelled (cancel_refusal middle.book (campaign_at middle serial)) first (refused some);
    } in
    let here : StopsAt serials serial (cancel_of_kept first) found last p r a c =
    subst (λ (h : Head). StopsAt serials serial (cancel_of_kept first) found h p r a c) (sym same)
    (subst (λ (l : Bool). StopsAt serials serial (cancel_of_kept first) found middle p l a c) (sym lost_same)
    (subst (λ (t : Option (List ℕ)). StopsAt serials serial (cancel_of_kept first) found middle p q a t) (sym text_same) stops)) in
    subst (λ (o : Option ℕ). IsSomeAnd o (λ (it : ℕ). StopsAt serials it told found last p r a c)) (sym is)
    (subst (λ (e : CancelError). StopsAt serials serial e found last p r a c) (sym told_is) here)

-- the campaigns that these name
pub cancels_these : (serials shown : List ℕ) (found last : Head) (p q : Bool) (a b : Option (List ℕ)) → shown ≡ serials → Cancels shown [] found last p q a b
    → Cancels serials [] found last p q a b
cancels_these serials shown found last p q a b same cancels = subst (λ (l : List ℕ). Cancels l [] found last p q a b) same cancels

pub stopped_these : (serials shown : List ℕ) (named : Option ℕ) (first : CancelError) (found last : Head) (p q : Bool) (a b : Option (List ℕ)) → shown ≡ serials
    → IsSomeAnd named (λ (serial : ℕ). StopsAt shown serial first found last p q a b) → Stopped serials named first found last p q a b
stopped_these serials shown None first found last p q a b same stops = absurd stops
stopped_these serials shown (Some serial) first found last p q a b same stops = subst (λ (l : List ℕ). StopsAt l serial first found last p q a b) same stops

-- none of them, since there is no memory
pub stopped_none : (serials : List ℕ) (named : Option ℕ) (first : CancelError) (found : Head) (p : Bool) (a : Option (List ℕ)) → named ≡ None → Stopped serials named first found found p p a a
stopped_none serials named first found p a none = subst (λ (o : Option ℕ). Stopped serials o first found found p p a a) (sym none) (refl, refl, refl)

-- the campaigns that the options name
pub has_cancelled : (options : CancelOptions) (named : List SerialRange) (found last : KeptHead FileDevice) (was lost : Bool) (text b : Option (List ℕ))
    → named ≡ options.campaigns.items → (book_of found).head ≡ options.head
    → Cancels (serials_of (book_of found) named) [] (head_of found) (head_of last) was lost text b → HasCancelled options
has_cancelled options named found last was lost text b same number cancels = record {
  found = found;
  number = number;
  last = last;
  cancelled =
      let all : cancels.done ≡ serials_of (book_of found) named = sym (cancels.split ∙ append-nil cancels.done) in
      cancels.cancelled ∙ ap (λ (l : List ℕ). cancelled_all l (head_of found)) all
      ∙ ap (λ (l : List SerialRange). cancelled_all (serials_of (book_of found) l) (head_of found)) same;
}

-- those before the one that is refused
pub has_stopped : (options : CancelOptions) (named : List SerialRange) (serial : Option ℕ) (first : CancelError) (found last : KeptHead FileDevice) (was lost : Bool) (text b : Option (List ℕ))
    → named ≡ options.campaigns.items → (book_of found).head ≡ options.head
    → Stopped (serials_of (book_of found) named) serial first (head_of found) (head_of last) was lost text b → IfSome serial (λ (it : ℕ). HasStopped options it first)
has_stopped options named None first found last was lost text b same number stops = tt
has_stopped options named (Some serial) first found last was lost text b same number stops = record {
  found = found;
  number = number;
  last = last;
  done = stops.before_it.done;
  others = stops.others;
  split = ap (λ (l : List SerialRange). serials_of (book_of found) l) (sym same) ∙ stops.before_it.split;
  cancelled = stops.before_it.cancelled;
  refused = stops.refused;
}

-- the book can't be had
pub none_stopped : (options : CancelOptions) (named : Option ℕ) (first : CancelError) → named ≡ None → IfSome named (λ (it : ℕ). HasStopped options it first)
none_stopped options named first none = subst (λ (o : Option ℕ). IfSome o (λ (it : ℕ). HasStopped options it first)) (sym none) tt

-- a campaign is named then
pub is_named : (named : Option ℕ) (P : ℕ → Type 0) → IsSomeAnd named P → is_some named ≡ true
is_named None P is = absurd is
is_named (Some serial) P is = refl

-- want of memory isn't of a campaign
pub memory_of_none : (e : CancelError) → e ≡ OutOfMemory → ¬ IsOfCampaign e
memory_of_none e is of = subst IsOfCampaign is of

-- no error of the opening of the book is
book_of_none : (e : BookFileError) → ¬ IsOfCampaign (cancel_of_book e)
book_of_none file.NoBook of = of
book_of_none file.Locked of = of
book_of_none file.BookFault of = of
book_of_none (file.BadBook offset) of = of
book_of_none (file.BadRecord index) of = of
book_of_none file.ForeignHead of = of
book_of_none file.OutOfMemory of = of

pub unopened_of_none : (e : BookFileError) (told : CancelError) → told ≡ cancel_of_book e → ¬ IsOfCampaign told
unopened_of_none e told is of = book_of_none e (subst IsOfCampaign is of)
