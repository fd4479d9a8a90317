-- What is read is spelled so, what is spelled so is read, and a fault is the leftmost one.
use Rattle.std.proofs.Common.{◌≡◌, ℕ, zero, suc, ◌≤◌, inl, inr, Bool, false, ltb, List, [], ◌∷◌, ◌++◌, length, take, drop, Result, Ok, Err, Option, Some, None, refl, sym, ap, subst, ◌∙◌, append_assoc, arith}
use Rattle.std.specs.Prelude.{MatchOption}
use Rattle.std.specs.Result.{MatchResult}
use Rattle.std.proofs.lemmas.Bool.{ltb-true, ltb-false, le-ltb, cond_both}
use Rattle.std.proofs.lemmas.List.{take_at, drop_at, take-append-drop, length-take, length-append}
use Rattle.fw_axdr.specs.Reading.{number}
use Rattle.fw_axdr.specs.Reading as reader
use Rattle.fw_axdr.specs.declared.error.AxdrError.{AxdrError}
use Rattle.fw_axdr.specs.declared.error.AxdrError.TheVariants.{UnknownTag}
use Rattle.fw_axdr.specs.declared.tag.Tag.{Tag}
use Rattle.fw_axdr.specs.declared.tag.Tag.TheVariants as tag
use Rattle.fw_axdr.specs.Private.{tag_at, code, seen, length_at, bytes_at, number_at, octets_at, bits_at, each_at, items_at, contents_at, tagged_at, data_at}
use Rattle.fw_axdr.specs.Bits.{bits, bytes_for}
use Rattle.fw_axdr.specs.Value.{Value, Values, none, more, count, deepest}
use Rattle.fw_axdr.specs.Spelling.{IsLength, SpellEach, IsData}
use Rattle.fw_axdr.specs.Fault.{tags, contents_in, LengthFails, BytesFail, CountedFails, EachFails, ContentsFail, Fails}
use Rattle.fw_axdr.proofs.Tags.{shape, contents_in-code, tag_code, tag_none}
use Rattle.fw_axdr.proofs.Lengths.{bind_both, LengthTaken, length_sound, length_again}
use Rattle.fw_axdr.proofs.Cuts.{length_bits}

-- ---- bytes, numbers and strings

pub record BytesTaken (size : ℕ) (c o rest : List ℕ) : Type 0 where
  pub parts : c ≡ o ++ rest
  pub len : length o ≡ size

abbrev pub BytesRead : ℕ → List ℕ → Result (List ℕ × List ℕ) AxdrError → Type 0
BytesRead size c r = MatchResult r (λ x. BytesTaken size c x.0 x.1) (BytesFail size c)

bytes_taken : (size : ℕ) (c : List ℕ) → size ≤ length c → BytesTaken size c (take size c) (drop size c)
bytes_taken size c room = record { parts = sym (take-append-drop size c); len = omega (arith, length-take size c) }

pub bytes_sound : (size : ℕ) (c : List ℕ) → BytesRead size c (bytes_at size c)
unfolding reader.bytes_at
bytes_sound size c =
    cond_both (ltb (length c) size) _ _ (λ r. BytesRead size c (seen r)) (λ lacks. (ltb-true (length c) size lacks, refl)) (λ room. bytes_taken size c (ltb-false (length c) size room))

bytes_again : (o rest : List ℕ) (size : ℕ) → length o ≡ size → bytes_at size (o ++ rest) ≡ Ok (o, rest)
unfolding reader.bytes_at
bytes_again o rest size len =
    let room : ltb (length (o ++ rest)) size ≡ false = le-ltb _ _ (omega (arith, length-append o rest)) in
    rw (room, take_at o rest size len, drop_at o rest size len) refl

pub record NumberTaken (size : ℕ) (c : List ℕ) (n : ℕ) (rest : List ℕ) : Type 0 where
  pub bytes : List ℕ
  pub parts : c ≡ bytes ++ rest
  pub len : length bytes ≡ size
  pub is : n ≡ number bytes

abbrev NumberRead : ℕ → List ℕ → Result (ℕ × List ℕ) AxdrError → Type 0
NumberRead size c r = MatchResult r (λ x. NumberTaken size c x.0 x.1) (BytesFail size c)

number_taken : (size : ℕ) (c : List ℕ) → size ≤ length c → NumberTaken size c (number (take size c)) (drop size c)
number_taken size c room = record { bytes = take size c; parts = sym (take-append-drop size c); len = omega (arith, length-take size c); is = refl }

number_sound : (size : ℕ) (c : List ℕ) → NumberRead size c (number_at size c)
unfolding reader.number_at
number_sound size c =
    cond_both (ltb (length c) size) _ _ (λ r. NumberRead size c (seen r)) (λ lacks. (ltb-true (length c) size lacks, refl)) (λ room. number_taken size c (ltb-false (length c) size room))

pub number_again : (bytes rest : List ℕ) (size n : ℕ) → length bytes ≡ size → n ≡ number bytes → number_at size (bytes ++ rest) ≡ Ok (n, rest)
unfolding reader.number_at
number_again bytes rest size n len is =
    let room : ltb (length (bytes ++ rest)) size ≡ false = le-ltb _ _ (omega (arith, length-append bytes rest)) in
    rw (room, take_at bytes rest size len, drop_at bytes rest size len, is) refl

-- the same, if nothing follows the step
bind_both_last : {A : Type 0} (r : Result A AxdrError) (P : A → Type 0) (Q : AxdrError → Type 0) (P' : A → Type 0) (Q' : AxdrError → Type 0)
    → MatchResult r P Q → ((x : A) → P x → P' x) → ((e : AxdrError) → Q e → Q' e) → MatchResult r P' Q'
bind_both_last (Ok x) P Q P' Q' h ok err = ok x h
bind_both_last (Err e) P Q P' Q' h ok err = err e h

-- a length, and what follows it
pub behind : (c len mid body rest : List ℕ) → c ≡ len ++ mid → mid ≡ body ++ rest → c ≡ (len ++ body) ++ rest
behind c len mid body rest p q = p ∙ ap (λ (x : List ℕ). len ++ x) q ∙ sym (append_assoc len body rest)

pub record OctetsTaken (c o rest : List ℕ) : Type 0 where
  pub len : List ℕ
  pub parts : c ≡ (len ++ o) ++ rest
  pub is : IsLength len (length o)

octets_sound : (c : List ℕ) → MatchResult (octets_at c) (λ x. OctetsTaken c x.0 x.1) (CountedFails BytesFail c)
unfolding octets_at
octets_sound c =
    bind_both (length_at c) _ (λ x. LengthTaken c x.0 x.1) (LengthFails c) _ _ (length_sound c)
    (λ n t. bind_both_last (bytes_at n.0 n.1) (λ x. BytesTaken n.0 n.1 x.0 x.1) (BytesFail n.0 n.1) (λ x. OctetsTaken c x.0 x.1) (CountedFails BytesFail c) (bytes_sound n.0 n.1)
    (λ x k. record { len = t.len; parts = behind c t.len n.1 x.0 x.1 t.parts k.parts; is = subst (λ (m : ℕ). IsLength t.len m) (sym k.len) t.is })
    (λ f q. inr (t.len, n.1, n.0, t.parts, t.is, q)))
    (λ f q. inl q)

pub octets_again : (len o rest : List ℕ) → IsLength len (length o) → octets_at ((len ++ o) ++ rest) ≡ Ok (o, rest)
unfolding octets_at
octets_again len o rest h = rw (append_assoc len o rest, length_again len (o ++ rest) (length o) h, bytes_again o rest (length o) refl) refl

pub record BitsTaken (c : List ℕ) (bs : List Bool) (rest : List ℕ) : Type 0 where
  pub len : List ℕ
  pub body : List ℕ
  pub parts : c ≡ (len ++ body) ++ rest
  pub is : IsLength len (length bs)
  pub room : length body ≡ bytes_for (length bs)
  pub same : bs ≡ take (length bs) (bits body)

bits_taken : (c : List ℕ) (n : ℕ) (mid body rest : List ℕ) → LengthTaken c n mid → BytesTaken (bytes_for n) mid body rest → BitsTaken c (take n (bits body)) rest
bits_taken c n mid body rest t k =
    let n-is : n ≡ length (take n (bits body)) = omega (arith, length-take n (bits body), length_bits body, k.len) in
    record {
      len = t.len;
      body = body;
      parts = behind c t.len mid body rest t.parts k.parts;
      is = subst (λ (m : ℕ). IsLength t.len m) n-is t.is;
      room = k.len ∙ ap bytes_for n-is;
      same = ap (λ (m : ℕ). take m (bits body)) n-is;
    }

bits_sound : (c : List ℕ) → MatchResult (bits_at c) (λ x. BitsTaken c x.0 x.1) (CountedFails (λ n. BytesFail (bytes_for n)) c)
unfolding bits_at
bits_sound c =
    bind_both (length_at c) _ (λ x. LengthTaken c x.0 x.1) (LengthFails c) _ _ (length_sound c)
    (λ n t. bind_both (bytes_at (bytes_for n.0) n.1) _ (λ x. BytesTaken (bytes_for n.0) n.1 x.0 x.1) (BytesFail (bytes_for n.0) n.1) _ _ (bytes_sound (bytes_for n.0) n.1)
    (λ x k. bits_taken c n.0 n.1 x.0 x.1 t k)
    (λ f q. inr (t.len, n.1, n.0, t.parts, t.is, q)))
    (λ f q. inl q)

pub bits_again : (len body rest : List ℕ) (bs : List Bool) → IsLength len (length bs) → length body ≡ bytes_for (length bs) → bs ≡ take (length bs) (bits body) → bits_at ((len ++ body) ++ rest) ≡ Ok (bs, rest)
unfolding bits_at
bits_again len body rest bs h room same =
    rw (append_assoc len body rest, length_again len (body ++ rest) (length bs) h, bytes_again body rest (bytes_for (length bs)) room) (ap (λ (x : List Bool). Ok (x, rest)) (sym same))

-- ---- a Data, with a number of levels left

pub record Taken (levels : ℕ) (s : List ℕ) (v : Value) (rest : List ℕ) : Type 0 where
  pub front : List ℕ
  pub parts : s ≡ front ++ rest
  pub is : IsData levels front v

abbrev Sound : ℕ → (List ℕ → Result (Value × List ℕ) AxdrError) → Type 0
Sound levels one = (s : List ℕ) → MatchResult (one s) (λ x. Taken levels s x.0 x.1) (λ f. Fails levels s f)

pub record EachTaken (levels n : ℕ) (s : List ℕ) (vs : Values) (rest : List ℕ) : Type 0 where
  pub front : List ℕ
  pub parts : s ≡ front ++ rest
  pub spells : SpellEach front vs
  pub deep : deepest vs ≤ levels
  pub counts : count vs ≡ n

each_more : (levels n : ℕ) (s : List ℕ) (v : Value) (mid : List ℕ) (vs : Values) (rest : List ℕ) → Taken levels s v mid → EachTaken levels n mid vs rest → EachTaken levels (suc n) s (more v vs) rest
each_more levels n s v mid vs rest t e =
    record {
      front = t.front ++ e.front;
      parts = behind s t.front mid e.front rest t.parts e.parts;
      spells = (t.front, e.front, refl, t.is.0, e.spells);
      deep = omega (arith, t.is.1, e.deep);
      counts = ap suc e.counts;
    }

each_fails : (levels n : ℕ) (s : List ℕ) (v : Value) (mid : List ℕ) (f : AxdrError) → Taken levels s v mid → EachFails levels (λ c g. Fails levels c g) n mid f → EachFails levels (λ c g. Fails levels c g) (suc n) s f
each_fails levels n s v mid f t q =
    (t.front ++ q.0, q.1, more v q.2, behind s t.front mid q.0 q.1 t.parts q.3, (t.front, q.0, refl, t.is.0, q.4), omega (arith, t.is.1, q.5), omega (arith, q.6), q.7)

each_sound : (levels : ℕ) (one : List ℕ → Result (Value × List ℕ) AxdrError) → Sound levels one → (n : ℕ) (s : List ℕ) → MatchResult (each_at one n s) (λ x. EachTaken levels n s x.0 x.1) (EachFails levels (λ c g. Fails levels c g) n s)
unfolding each_at
each_sound levels one h zero s = record { front = []; parts = refl; spells = refl; deep = omega arith; counts = refl }
each_sound levels one h (suc n) s =
    bind_both (one s) _ (λ x. Taken levels s x.0 x.1) (λ f. Fails levels s f) _ _ (h s)
    (λ x t. bind_both (each_at one n x.1) _ (λ y. EachTaken levels n x.1 y.0 y.1) (EachFails levels (λ c g. Fails levels c g) n x.1) _ _ (each_sound levels one h n x.1)
    (λ y e. each_more levels n s x.0 x.1 y.0 y.1 t e)
    (λ f q. each_fails levels n s x.0 x.1 f t q))
    (λ f q. ([], s, none, refl, refl, omega arith, omega arith, q))

pub record ItemsTaken (levels : ℕ) (c : List ℕ) (vs : Values) (rest : List ℕ) : Type 0 where
  pub len : List ℕ
  pub body : List ℕ
  pub parts : c ≡ (len ++ body) ++ rest
  pub is : IsLength len (count vs)
  pub spells : SpellEach body vs
  pub deep : deepest vs ≤ levels

items_sound : (levels : ℕ) (one : List ℕ → Result (Value × List ℕ) AxdrError) → Sound levels one → (c : List ℕ) → MatchResult (items_at one c) (λ x. ItemsTaken levels c x.0 x.1) (CountedFails (EachFails levels (λ s g. Fails levels s g)) c)
unfolding items_at
items_sound levels one h c =
    bind_both (length_at c) _ (λ x. LengthTaken c x.0 x.1) (LengthFails c) _ _ (length_sound c)
    (λ n t. bind_both_last (each_at one n.0 n.1) (λ x. EachTaken levels n.0 n.1 x.0 x.1) (EachFails levels (λ s g. Fails levels s g) n.0 n.1) (λ x. ItemsTaken levels c x.0 x.1) (CountedFails (EachFails levels (λ s g. Fails levels s g)) c) (each_sound levels one h n.0 n.1)
    (λ x k. record { len = t.len; body = k.front; parts = behind c t.len n.1 k.front x.1 t.parts k.parts; is = subst (λ (m : ℕ). IsLength t.len m) (sym k.counts) t.is; spells = k.spells; deep = k.deep })
    (λ f q. inr (t.len, n.1, n.0, t.parts, t.is, q)))
    (λ f q. inl q)

contents_sound : (levels : ℕ) (one : List ℕ → Result (Value × List ℕ) AxdrError) → Sound levels one → (k : Tag) (c : List ℕ)
    → MatchResult (contents_at one k c) (λ x. Taken (suc levels) (code k ∷ c) x.0 x.1) (ContentsFail levels (λ s g. Fails levels s g) (shape k) c)
unfolding contents_at
contents_sound levels one h tag.Null c = record { front = 0 ∷ []; parts = refl; is = (refl, omega arith) }
contents_sound levels one h tag.Array c =
    bind_both (items_at one c) _ (λ x. ItemsTaken levels c x.0 x.1) (CountedFails (EachFails levels (λ s g. Fails levels s g)) c) _ _ (items_sound levels one h c)
    (λ x k. record { front = 1 ∷ k.len ++ k.body; parts = ap (λ (y : List ℕ). 1 ∷ y) k.parts; is = ((k.len, k.body, refl, k.is, k.spells), omega (arith, k.deep)) })
    (λ f q. q)
contents_sound levels one h tag.Structure c =
    bind_both (items_at one c) _ (λ x. ItemsTaken levels c x.0 x.1) (CountedFails (EachFails levels (λ s g. Fails levels s g)) c) _ _ (items_sound levels one h c)
    (λ x k. record { front = 2 ∷ k.len ++ k.body; parts = ap (λ (y : List ℕ). 2 ∷ y) k.parts; is = ((k.len, k.body, refl, k.is, k.spells), omega (arith, k.deep)) })
    (λ f q. q)
contents_sound levels one h tag.Boolean c =
    bind_both (number_at 1 c) _ (λ x. NumberTaken 1 c x.0 x.1) (BytesFail 1 c) _ _ (number_sound 1 c)
    (λ x k. record { front = 3 ∷ k.bytes; parts = ap (λ (y : List ℕ). 3 ∷ y) k.parts; is = ((x.0, (k.bytes, refl, k.len, k.is), refl), omega arith) })
    (λ f q. q)
contents_sound levels one h tag.BitString c =
    bind_both (bits_at c) _ (λ x. BitsTaken c x.0 x.1) (CountedFails (λ n. BytesFail (bytes_for n)) c) _ _ (bits_sound c)
    (λ x k. record { front = 4 ∷ k.len ++ k.body; parts = ap (λ (y : List ℕ). 4 ∷ y) k.parts; is = ((k.len, k.body, refl, k.is, k.room, k.same), omega arith) })
    (λ f q. q)
contents_sound levels one h tag.DoubleLong c =
    bind_both (number_at 4 c) _ (λ x. NumberTaken 4 c x.0 x.1) (BytesFail 4 c) _ _ (number_sound 4 c)
    (λ x k. record { front = 5 ∷ k.bytes; parts = ap (λ (y : List ℕ). 5 ∷ y) k.parts; is = ((x.0, (k.bytes, refl, k.len, k.is), refl), omega arith) })
    (λ f q. q)
contents_sound levels one h tag.DoubleLongUnsigned c =
    bind_both (number_at 4 c) _ (λ x. NumberTaken 4 c x.0 x.1) (BytesFail 4 c) _ _ (number_sound 4 c)
    (λ x k. record { front = 6 ∷ k.bytes; parts = ap (λ (y : List ℕ). 6 ∷ y) k.parts; is = ((k.bytes, refl, k.len, k.is), omega arith) })
    (λ f q. q)
contents_sound levels one h tag.OctetString c =
    bind_both (octets_at c) _ (λ x. OctetsTaken c x.0 x.1) (CountedFails BytesFail c) _ _ (octets_sound c)
    (λ x k. record { front = 9 ∷ k.len ++ x.0; parts = ap (λ (y : List ℕ). 9 ∷ y) k.parts; is = ((k.len, refl, k.is), omega arith) })
    (λ f q. q)
contents_sound levels one h tag.VisibleString c =
    bind_both (octets_at c) _ (λ x. OctetsTaken c x.0 x.1) (CountedFails BytesFail c) _ _ (octets_sound c)
    (λ x k. record { front = 10 ∷ k.len ++ x.0; parts = ap (λ (y : List ℕ). 10 ∷ y) k.parts; is = ((k.len, refl, k.is), omega arith) })
    (λ f q. q)
contents_sound levels one h tag.Integer c =
    bind_both (number_at 1 c) _ (λ x. NumberTaken 1 c x.0 x.1) (BytesFail 1 c) _ _ (number_sound 1 c)
    (λ x k. record { front = 15 ∷ k.bytes; parts = ap (λ (y : List ℕ). 15 ∷ y) k.parts; is = ((x.0, (k.bytes, refl, k.len, k.is), refl), omega arith) })
    (λ f q. q)
contents_sound levels one h tag.Long c =
    bind_both (number_at 2 c) _ (λ x. NumberTaken 2 c x.0 x.1) (BytesFail 2 c) _ _ (number_sound 2 c)
    (λ x k. record { front = 16 ∷ k.bytes; parts = ap (λ (y : List ℕ). 16 ∷ y) k.parts; is = ((x.0, (k.bytes, refl, k.len, k.is), refl), omega arith) })
    (λ f q. q)
contents_sound levels one h tag.Unsigned c =
    bind_both (number_at 1 c) _ (λ x. NumberTaken 1 c x.0 x.1) (BytesFail 1 c) _ _ (number_sound 1 c)
    (λ x k. record { front = 17 ∷ k.bytes; parts = ap (λ (y : List ℕ). 17 ∷ y) k.parts; is = ((k.bytes, refl, k.len, k.is), omega arith) })
    (λ f q. q)
contents_sound levels one h tag.LongUnsigned c =
    bind_both (number_at 2 c) _ (λ x. NumberTaken 2 c x.0 x.1) (BytesFail 2 c) _ _ (number_sound 2 c)
    (λ x k. record { front = 18 ∷ k.bytes; parts = ap (λ (y : List ℕ). 18 ∷ y) k.parts; is = ((k.bytes, refl, k.len, k.is), omega arith) })
    (λ f q. q)
contents_sound levels one h tag.Long64 c =
    bind_both (number_at 8 c) _ (λ x. NumberTaken 8 c x.0 x.1) (BytesFail 8 c) _ _ (number_sound 8 c)
    (λ x k. record { front = 20 ∷ k.bytes; parts = ap (λ (y : List ℕ). 20 ∷ y) k.parts; is = ((x.0, (k.bytes, refl, k.len, k.is), refl), omega arith) })
    (λ f q. q)
contents_sound levels one h tag.Long64Unsigned c =
    bind_both (number_at 8 c) _ (λ x. NumberTaken 8 c x.0 x.1) (BytesFail 8 c) _ _ (number_sound 8 c)
    (λ x k. record { front = 21 ∷ k.bytes; parts = ap (λ (y : List ℕ). 21 ∷ y) k.parts; is = ((k.bytes, refl, k.len, k.is), omega arith) })
    (λ f q. q)
contents_sound levels one h tag.Enumerated c =
    bind_both (number_at 1 c) _ (λ x. NumberTaken 1 c x.0 x.1) (BytesFail 1 c) _ _ (number_sound 1 c)
    (λ x k. record { front = 22 ∷ k.bytes; parts = ap (λ (y : List ℕ). 22 ∷ y) k.parts; is = ((k.bytes, refl, k.len, k.is), omega arith) })
    (λ f q. q)

tagged_sound : (levels : ℕ) (one : List ℕ → Result (Value × List ℕ) AxdrError) → Sound levels one → (t : ℕ) (o : Option Tag) (c : List ℕ) → tag_at t ≡ o
    → MatchResult (tagged_at one o c) (λ x. Taken (suc levels) (t ∷ c) x.0 x.1) (λ f. MatchOption (contents_in tags t) (f ≡ UnknownTag) (λ k. ContentsFail levels (λ s g. Fails levels s g) k c f))
tagged_sound levels one h t None c e = rw (tag_none t e) refl
tagged_sound levels one h t (Some k) c e =
    let sound = contents_sound levels one h k c in
    rw (tag_code t k e, contents_in-code k) sound

pub data_sound : (levels : ℕ) → Sound levels (λ s. data_at levels s)
unfolding data_at
data_sound zero [] = refl
data_sound zero (t ∷ c) = refl
data_sound (suc levels) [] = refl
data_sound (suc levels) (t ∷ c) =
    tagged_sound levels (λ s. data_at levels s) (data_sound levels) t (tag_at t) c refl
