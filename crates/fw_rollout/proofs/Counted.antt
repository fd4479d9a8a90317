-- What a daemon counts, and what it reports.
use Rattle.std.proofs.Common.{◌≡◌, ℕ, ◌+◌, ◌<◌, min, cond, inl, inr, List, [], ◌∷◌, ◌++◌, length, get_or, take, refl, sym, ap, subst, append_assoc, append-nil, ◌∙◌, arith}
use Rattle.std.proofs.lemmas.List.{take_more}
use Rattle.std.proofs.lemmas.List.Sums.{sum_by-append, sum_by_push}
use Rattle.fw_ledger.specs.declared.record.Ending.{Ending}
use Rattle.fw_ledger.specs.declared.record.Ending.TheVariants as ends
use Rattle.std.specs.declared.net.socket_addr.SocketAddr.{SocketAddr}
use Rattle.fw_port.specs.Acts.{sent, told}
use Rattle.fw_rollout.specs.Acts.{Act}
use Rattle.fw_rollout.specs.Counting.{CountsJust, CountsRows, CountsTold, IsMore, TellsCounted, TellsRows, done_of, failed_of, greatest, is_done_end, is_failed_end, one_more, told_in, with_heard, with_row}
use Rattle.fw_rollout.specs.declared.daemon.Counts.{Counts}
use Rattle.fw_rollout.specs.declared.daemon.Heard.{Heard}
use Rattle.fw_rollout.specs.declared.daemon.Heard.TheVariants as returned
use Rattle.fw_rollout.specs.declared.ended.Ended.{Ended}

-- ---- so many more

min_on : (most a b c k m n : ℕ) → b ≡ min (a + m) most → c ≡ min (b + n) most → k ≡ m + n → c ≡ min (a + k) most
min_on most a b c k m n e f s = omega arith

right_none : (k m n : ℕ) → n ≡ 0 → k ≡ m + n → m ≡ k
right_none k m n z s = omega arith

left_none : (k m n : ℕ) → m ≡ 0 → k ≡ m + n → n ≡ k
left_none k m n z s = omega arith

both_none : (k m n : ℕ) → m ≡ 0 → n ≡ 0 → k ≡ m + n → k ≡ 0
both_none k m n y z s = omega arith

as_many : (k m : ℕ) → k ≡ m → k ≡ m + 0
as_many k m e = omega arith

pub more_on : (a b c k m n : ℕ) → IsMore a m b → IsMore b n c → k ≡ m + n → IsMore a k c
more_on a b c k m n (inl e) (inl f) s = inl (min_on greatest a b c k m n e f s)
more_on a b c k m n (inl e) (inr (z, f)) s = inl (f ∙ e ∙ ap (λ (x : ℕ). min (a + x) greatest) (right_none k m n z s))
more_on a b c k m n (inr (z, e)) (inl f) s = inl (f ∙ ap (λ (x : ℕ). min (x + n) greatest) e ∙ ap (λ (x : ℕ). min (a + x) greatest) (left_none k m n z s))
more_on a b c k m n (inr (y, e)) (inr (z, f)) s = inr (both_none k m n y z s, f ∙ e)

more_one : (a b c k m : ℕ) → IsMore a m b → c ≡ one_more b → k ≡ m + 1 → IsMore a k c
more_one a b c k m h e s = more_on a b c k m 1 h (inl e) s

more_same : (a b c k m : ℕ) → IsMore a m b → c ≡ b → k ≡ m → IsMore a k c
more_same a b c k m h e s = more_on a b c k m 0 h (inr (refl, e)) (as_many k m s)

-- ---- rows, by how they ended

done_push : (rows : List Ended) (row : Ended) → done_of (rows ++ row ∷ []) ≡ done_of rows + cond (is_done_end row.ending) 1 0
done_push rows row = sum_by_push (λ (r : Ended). cond (is_done_end r.ending) 1 0) rows row

failed_push : (rows : List Ended) (row : Ended) → failed_of (rows ++ row ∷ []) ≡ failed_of rows + cond (is_failed_end row.ending) 1 0
failed_push rows row = sum_by_push (λ (r : Ended). cond (is_failed_end r.ending) 1 0) rows row

no_more : (k m n : ℕ) → k ≡ m + n → n ≡ 0 → k ≡ m
no_more k m n e z = omega arith

one_row : (k m n : ℕ) → k ≡ m + n → n ≡ 1 → k ≡ m + 1
one_row k m n e z = omega arith

row_push : (rows : List Ended) (row : Ended) (ending : Ending) (start old new : Counts) → row.ending ≡ ending → CountsJust rows start old → new ≡ with_row ending old → CountsJust (rows ++ row ∷ []) start new
row_push rows row ends.Done start old new so was is =
    let done : new.done ≡ one_more old.done = ap (λ (c : Counts). c.done) is in
    let failed : new.failed ≡ old.failed = ap (λ (c : Counts). c.failed) is in
    let both : record start { done = one_more old.done; failed = old.failed } ≡ record start { done = new.done; failed = new.failed } =
    λ i. record start { done = sym done i; failed = sym failed i } in
    record {
      counts = record {
        done = more_one start.done old.done new.done (done_of (rows ++ row ∷ [])) (done_of rows) was.counts.done done
            (one_row _ (done_of rows) _ (done_push rows row) (ap (λ (e : Ending). cond (is_done_end e) 1 0) so));
        failed = more_same start.failed old.failed new.failed (failed_of (rows ++ row ∷ [])) (failed_of rows) was.counts.failed failed
            (no_more _ (failed_of rows) _ (failed_push rows row) (ap (λ (e : Ending). cond (is_failed_end e) 1 0) so));
      };
      others = is ∙ ap (λ (c : Counts). record c { done = one_more old.done }) was.others ∙ both;
    }
row_push rows row ends.Failed start old new so was is =
    let done : new.done ≡ old.done = ap (λ (c : Counts). c.done) is in
    let failed : new.failed ≡ one_more old.failed = ap (λ (c : Counts). c.failed) is in
    let both : record start { done = old.done; failed = one_more old.failed } ≡ record start { done = new.done; failed = new.failed } =
    λ i. record start { done = sym done i; failed = sym failed i } in
    record {
      counts = record {
        done = more_same start.done old.done new.done (done_of (rows ++ row ∷ [])) (done_of rows) was.counts.done done
            (no_more _ (done_of rows) _ (done_push rows row) (ap (λ (e : Ending). cond (is_done_end e) 1 0) so));
        failed = more_one start.failed old.failed new.failed (failed_of (rows ++ row ∷ [])) (failed_of rows) was.counts.failed failed
            (one_row _ (failed_of rows) _ (failed_push rows row) (ap (λ (e : Ending). cond (is_failed_end e) 1 0) so));
      };
      others = is ∙ ap (λ (c : Counts). record c { failed = one_more old.failed }) was.others ∙ both;
    }

-- one row more of those that are counted
pub rows_more : (rows : List Ended) (i : ℕ) (row : Ended) (start old new : Counts) → i < length rows → row ≡ get_or rows i row → CountsJust (take i rows) start old → new ≡ with_row row.ending old
    → CountsJust (take (i + 1) rows) start new
rows_more rows i row start old new within at was is =
    subst (λ (xs : List Ended). CountsJust xs start new) (ap (λ (r : Ended). take i rows ++ r ∷ []) at ∙ sym (take_more rows i row within))
    (row_push (take i rows) row row.ending start old new refl was is)

-- a row is counted by how it ended
pub done_row : (ending : Ending) (old : Counts) (n : ℕ) → ending ≡ ends.Done → n ≡ one_more old.done → record old { done = n } ≡ with_row ending old
done_row ending old n so is = subst (λ (e : Ending). record old { done = n } ≡ with_row e old) (sym so) (ap (λ (m : ℕ). record old { done = m }) is)

pub failed_row : (ending : Ending) (old : Counts) (n : ℕ) → ending ≡ ends.Failed → n ≡ one_more old.failed → record old { failed = n } ≡ with_row ending old
failed_row ending old n so is = subst (λ (e : Ending). record old { failed = n } ≡ with_row e old) (sym so) (ap (λ (m : ℕ). record old { failed = m }) is)

rows_on : (first second : List Ended) (a b c : Counts) → CountsRows first a b → CountsRows second b c → CountsRows (first ++ second) a c
rows_on first second a b c one two = record {
  done = more_on a.done b.done c.done (done_of (first ++ second)) (done_of first) (done_of second) one.done two.done (sum_by-append (λ (r : Ended). cond (is_done_end r.ending) 1 0) first second);
  failed = more_on a.failed b.failed c.failed (failed_of (first ++ second)) (failed_of first) (failed_of second) one.failed two.failed
      (sum_by-append (λ (r : Ended). cond (is_failed_end r.ending) 1 0) first second);
}

-- ---- what is counted and what is reported

pub told_on : (before middle after : List Act) (a b c : Counts) → CountsTold before middle a b → CountsTold middle after b c → CountsTold before after a c
told_on before middle after a b c first second = record {
  rows = first.rows ++ second.rows;
  adds = second.adds ∙ ap (λ (l : List Ended). l ++ second.rows) first.adds ∙ append_assoc (told_in before) first.rows second.rows;
  counts = rows_on first.rows second.rows a b c first.counts second.counts;
}

-- nothing is reported, and no row is counted
pub told_none : (before after : List Act) (a b : Counts) → told_in after ≡ told_in before → b.done ≡ a.done → b.failed ≡ a.failed → CountsTold before after a b
told_none before after a b same done failed = record {
  rows = [];
  adds = same ∙ sym (append-nil (told_in before));
  counts = record { done = inr (refl, done); failed = inr (refl, failed) };
}

pub told_same : (before after : List Act) (a b : Counts) → told_in after ≡ told_in before → b ≡ a → CountsTold before after a b
told_same before after a b same is = told_none before after a b same (ap (λ (c : Counts). c.done) is) (ap (λ (c : Counts). c.failed) is)

-- datagrams are counted alone
pub told_sent : (before after : List Act) (a b : Counts) (n : ℕ) → told_in after ≡ told_in before → b ≡ record a { sent = n } → CountsTold before after a b
told_sent before after a b n same is = told_none before after a b same (ap (λ (c : Counts). c.done) is) (ap (λ (c : Counts). c.failed) is)

pub told_received : (before after : List Act) (a b : Counts) (n : ℕ) → told_in after ≡ told_in before → b ≡ record a { received = n } → CountsTold before after a b
told_received before after a b n same is = told_none before after a b same (ap (λ (c : Counts). c.done) is) (ap (λ (c : Counts). c.failed) is)

heard_done : (what : Heard) (c : Counts) → (with_heard what c).done ≡ c.done
heard_done returned.Stranger c = refl
heard_done returned.Nothing c = refl
heard_done returned.Moved c = refl
heard_done returned.Ended c = refl

heard_failed : (what : Heard) (c : Counts) → (with_heard what c).failed ≡ c.failed
heard_failed returned.Stranger c = refl
heard_failed returned.Nothing c = refl
heard_failed returned.Moved c = refl
heard_failed returned.Ended c = refl

pub told_heard : (before after : List Act) (what : Heard) (a b : Counts) → told_in after ≡ told_in before → b ≡ with_heard what a → CountsTold before after a b
told_heard before after what a b same is =
    told_none before after a b same (ap (λ (c : Counts). c.done) is ∙ heard_done what a) (ap (λ (c : Counts). c.failed) is ∙ heard_failed what a)

-- a datagram is sent
pub sends_next : (to : SocketAddr) (bytes : List ℕ) (acts start later : List Act) → later ≡ sent to bytes ∷ acts → told_in acts ≡ told_in start → told_in later ≡ told_in start
sends_next to bytes acts start later is was = ap (λ (l : List Act). told_in l) is ∙ was

-- the next row is reported
pub tells_next : (acts start later : List Act) (row : Ended) (left others saved : List Ended) → later ≡ told row ∷ acts → told_in acts ++ left ≡ told_in start ++ saved → left ≡ row ∷ others
    → told_in later ++ others ≡ told_in start ++ saved
tells_next acts start later row left others saved is was next =
    ap (λ (l : List Act). told_in l ++ others) is ∙ append_assoc (told_in acts) (row ∷ []) others ∙ ap (λ (l : List Ended). told_in acts ++ l) (sym next) ∙ was

pub tells_all : (acts start : List Act) (left saved : List Ended) → left ≡ [] → told_in acts ++ left ≡ told_in start ++ saved → told_in acts ≡ told_in start ++ saved
tells_all acts start left saved none was = sym (append-nil (told_in acts)) ∙ ap (λ (l : List Ended). told_in acts ++ l) (sym none) ∙ was

-- ---- what is counted and what any port was told

module _ {P : Type 0} (tells : P → List Ended → P → Type 0) where
  -- nothing was done
  pub rows_none : (old : P) → TellsRows tells [] old old
  rows_none old = λ start before was. subst (λ (l : List Ended). tells start l old) (sym (append-nil before)) was

  -- it was told nothing
  pub rows_kept : (old new : P) → ((start : P) (before : List Ended) → tells start before old → tells start before new) → TellsRows tells [] old new
  rows_kept old new kept = λ start before was. subst (λ (l : List Ended). tells start l new) (sym (append-nil before)) (kept start before was)

  pub rows_then : (first second : List Ended) (old middle new : P) → TellsRows tells first old middle → TellsRows tells second middle new
      → TellsRows tells (first ++ second) old new
  rows_then first second old middle new one two = λ start before was.
      subst (λ (l : List Ended). tells start l new) (append_assoc before first second) (two start (before ++ first) (one start before was))

  -- it was told the next row
  pub rows_next : (rows : List Ended) (i : ℕ) (row : Ended) (old middle new : P) → i < length rows → row ≡ get_or rows i row
      → TellsRows tells (take i rows) old middle → TellsRows tells (row ∷ []) middle new → TellsRows tells (take (i + 1) rows) old new
  rows_next rows i row old middle new within at one two =
      subst (λ (l : List Ended). TellsRows tells l old new) (ap (λ (r : Ended). take i rows ++ r ∷ []) at ∙ sym (take_more rows i row within))
      (rows_then (take i rows) (row ∷ []) old middle new one two)

  pub counted_on : (old middle new : P) (a b c : Counts) → TellsCounted tells old middle a b → TellsCounted tells middle new b c → TellsCounted tells old new a c
  counted_on old middle new a b c first second = record {
    rows = first.rows ++ second.rows;
    told = rows_then first.rows second.rows old middle new first.told second.told;
    counts = rows_on first.rows second.rows a b c first.counts second.counts;
  }

  -- no row is counted
  counted_none : (old new : P) (a b : Counts) → TellsRows tells [] old new → b.done ≡ a.done → b.failed ≡ a.failed → TellsCounted tells old new a b
  counted_none old new a b kept done failed = record { rows = []; told = kept; counts = record { done = inr (refl, done); failed = inr (refl, failed) } }

  pub counted_same : (old new : P) (a b : Counts) → TellsRows tells [] old new → b ≡ a → TellsCounted tells old new a b
  counted_same old new a b kept is = counted_none old new a b kept (ap (λ (c : Counts). c.done) is) (ap (λ (c : Counts). c.failed) is)

  pub counted_sent : (old new : P) (a b : Counts) (n : ℕ) → TellsRows tells [] old new → b ≡ record a { sent = n } → TellsCounted tells old new a b
  counted_sent old new a b n kept is = counted_none old new a b kept (ap (λ (c : Counts). c.done) is) (ap (λ (c : Counts). c.failed) is)

  pub counted_received : (old new : P) (a b : Counts) (n : ℕ) → TellsRows tells [] old new → b ≡ record a { received = n } → TellsCounted tells old new a b
  counted_received old new a b n kept is = counted_none old new a b kept (ap (λ (c : Counts). c.done) is) (ap (λ (c : Counts). c.failed) is)

  pub counted_heard : (old new : P) (what : Heard) (a b : Counts) → TellsRows tells [] old new → b ≡ with_heard what a → TellsCounted tells old new a b
  counted_heard old new what a b kept is =
      counted_none old new a b kept (ap (λ (c : Counts). c.done) is ∙ heard_done what a) (ap (λ (c : Counts). c.failed) is ∙ heard_failed what a)
