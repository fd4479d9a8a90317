-- The parts of a header's bytes, one after another, and that each gives its field back.
use Rattle.std.proofs.Common.{◌≡◌, ◌≢◌, ℕ, ◌<◌, ◌≤◌, ◌^◌, List, [], ◌∷◌, ◌++◌, length, take, drop, get_or, Bool, true, false, cond, eqb, Option, Some, None, refl, sym, ap, ◌∙◌, subst, arith, append_assoc, append-nil}
use Rattle.std.specs.Int.{w32, to_be_bytes, from_be_bytes}
use Rattle.std.specs.Prelude.{is_some, IfSome}
use Rattle.std.proofs.lemmas.Nat.{from_be_bytes-to_be_bytes_4}
use Rattle.std.proofs.lemmas.List.{length-append, length-take, length-drop, drop-drop, take-append-drop, take_at, drop_at, drop_all}
use Rattle.std.proofs.Math.Nat.{suc-ne-zero}
use Rattle.fw_axdr.specs.Bits.{packed}
use Rattle.fw_axdr.specs.Laws.{BitsPacked}
use Rattle.fw_names.specs.Name.{Name, IsName, SpellsName}
use Rattle.fw_names.specs.Laws.{OneName}
use Rattle.fw_blocks.specs.Laws.{OneSetForBytes}
use Rattle.fw_store.specs.declared.slot.Slot.{Slot}
use Rattle.fw_store.specs.declared.slot.Slot.TheVariants.{First, Second}
use Rattle.fw_store.specs.declared.version.HeaderVersion.{HeaderVersion}
use Rattle.fw_store.specs.declared.version.HeaderVersion.TheVariants.{One, Two}
use Rattle.fw_store.specs.declared.header.StoredStatus.{StoredStatus}
use Rattle.fw_store.specs.declared.header.StoredStatus.TheVariants.{NotInitiated, Initiated, VerificationSuccessful, VerificationFailed, ActivationSuccessful}
use Rattle.fw_store.specs.declared.header.Goal.{Goal}
use Rattle.fw_store.specs.declared.header.Header.{Header}
use Rattle.fw_store.specs.Versions.{first_limit, block_limit, header_size}
use Rattle.fw_store.specs.Layout.{form, flag, slot_number, status_number, stored_name_bytes, goal_bytes, goal_release, header_bytes}
use Rattle.fw_store.specs.Fronts.{front_of}
use Rattle.fw_store.specs.Header.{GoalFieldsFit, FieldsFit}
use Rattle.fw_store.proofs.MarkLemmas.{first_within, first_size, others_size}

-- ---- the form

-- the last byte of a form
abbrev pub version_byte : HeaderVersion → ℕ
version_byte One = 0x31
version_byte Two = 0x32

abbrev form_of : ℕ → List ℕ
form_of byte = 0x46 ∷ 0x57 ∷ 0x48 ∷ byte ∷ []

form_is : (version : HeaderVersion) → form version ≡ form_of (version_byte version)
form_is One = refl
form_is Two = refl

-- the first bytes of a header with any form
abbrev formed : List ℕ → Header → List ℕ
formed form h =
    form
    ++ (flag h.enabled ∷ slot_number h.running_slot ∷ status_number h.status ∷ flag (is_some h.goal) ∷ [])
    ++ to_be_bytes w32 h.block_size
    ++ to_be_bytes w32 h.running_size
    ++ stored_name_bytes h.running_name
    ++ goal_bytes h.goal
    ++ packed (take first_limit h.marks)
    ++ to_be_bytes w32 h.running_name.release
    ++ to_be_bytes w32 (goal_release h.goal)

front_is : (h : Header) → front_of h ≡ formed (form_of (version_byte h.version)) h
unfolding front_of
front_is h = ap (λ (form : List ℕ). formed form h) (form_is h.version)

-- a header is these and the marks of the other blocks
pub header_is : (h : Header) → header_bytes h ≡ front_of h ++ packed (drop first_limit h.marks)
unfolding header_bytes front_of
header_is h = refl

-- in version 1 there are no others
pub header_one : (h : Header) → h.version ≡ One → length h.marks ≡ block_limit h.version → header_bytes h ≡ front_of h
header_one h one size =
    let count : length h.marks ≤ first_limit = let limit : block_limit h.version ≡ first_limit = ap block_limit one in omega arith in
    header_is h ∙ ap (λ (marks : List Bool). front_of h ++ packed marks) (drop_all first_limit h.marks count) ∙ append-nil (front_of h)

-- its first bytes have the first marks alone
pub front_first : (h : Header) (marks marks' : List Bool) → take first_limit marks ≡ take first_limit marks'
    → front_of (record h { marks = marks }) ≡ front_of (record h { marks = marks' })
unfolding front_of
front_first h marks marks' same = ap (λ (first : List Bool).
    form h.version
    ++ (flag h.enabled ∷ slot_number h.running_slot ∷ status_number h.status ∷ flag (is_some h.goal) ∷ [])
    ++ to_be_bytes w32 h.block_size
    ++ to_be_bytes w32 h.running_size
    ++ stored_name_bytes h.running_name
    ++ goal_bytes h.goal
    ++ packed first
    ++ to_be_bytes w32 h.running_name.release
    ++ to_be_bytes w32 (goal_release h.goal)) same

-- ---- its parts

-- the first bytes of a header, part by part
pub record Parts (front : List ℕ) (h : Header) : Type 0 where
  pub version : get_or front 3 0 ≡ version_byte h.version
  pub enabled : get_or front 4 0 ≡ flag h.enabled
  pub running_slot : get_or front 5 0 ≡ slot_number h.running_slot
  pub status : get_or front 6 0 ≡ status_number h.status
  pub has_goal : get_or front 7 0 ≡ flag (is_some h.goal)
  pub block_size : take 4 (drop 8 front) ≡ to_be_bytes w32 h.block_size
  pub running_size : take 4 (drop 12 front) ≡ to_be_bytes w32 h.running_size
  pub running_name : take 41 (drop 16 front) ≡ stored_name_bytes h.running_name
  pub goal : take 45 (drop 57 front) ≡ goal_bytes h.goal
  pub marks : take 512 (drop 102 front) ≡ packed (take first_limit h.marks)
  pub running_release : take 4 (drop 614 front) ≡ to_be_bytes w32 h.running_name.release
  pub goal_release : take 4 (drop 618 front) ≡ to_be_bytes w32 (goal_release h.goal)

name_size : (name : Name) → IsName name → length (stored_name_bytes name) ≡ 41
name_size name is = let size = is.digest_size in omega arith

goal_size : (goal : Option Goal) → IfSome goal GoalFieldsFit → length (goal_bytes goal) ≡ 45
goal_size None fits = refl
goal_size (Some goal) fits = let size = fits.name.digest_size in omega arith

-- it has a mark for each of the first blocks
pub enough : (h : Header) → FieldsFit h → first_limit ≤ length h.marks
enough h fits = let least = first_within h.version in let size = fits.marks in omega arith

formed_parts : BitsPacked → (byte : ℕ) (h : Header) → FieldsFit h → byte ≡ version_byte h.version → Parts (formed (form_of byte) h) h
formed_parts law byte h fits version =
    let front : List ℕ = formed (form_of byte) h in
    let name : List ℕ = stored_name_bytes h.running_name in
    let goal : List ℕ = goal_bytes h.goal in
    let marks : List ℕ = packed (take first_limit h.marks) in
    let running : List ℕ = to_be_bytes w32 h.running_name.release in
    let last : List ℕ = to_be_bytes w32 (goal_release h.goal) in
    let rest : List ℕ = marks ++ (running ++ last) in
    let size = first_size law h.marks (enough h fits) in
    let joined : ((((name ++ goal) ++ marks) ++ running) ++ last) ≡ name ++ (goal ++ rest) = simp append_assoc in
    let behind_name : drop 57 front ≡ goal ++ rest =
    ap (drop 41) joined ∙ drop_at name (goal ++ rest) 41 (name_size h.running_name fits.running_name) in
    let behind_goal : drop 102 front ≡ rest =
    sym (drop-drop 45 57 front) ∙ ap (drop 45) behind_name ∙ drop_at goal rest 45 (goal_size h.goal fits.goal) in
    let behind_marks : drop 614 front ≡ running ++ last =
    sym (drop-drop 512 102 front) ∙ ap (drop 512) behind_goal ∙ drop_at marks (running ++ last) 512 size in
    record {
      version = version;
      enabled = refl;
      running_slot = refl;
      status = refl;
      has_goal = refl;
      block_size = refl;
      running_size = refl;
      running_name = ap (take 41) joined ∙ take_at name (goal ++ rest) 41 (name_size h.running_name fits.running_name);
      goal = ap (take 45) behind_name ∙ take_at goal rest 45 (goal_size h.goal fits.goal);
      marks = ap (take 512) behind_goal ∙ take_at marks (running ++ last) 512 size;
      running_release = ap (take 4) behind_marks;
      goal_release = ap (take 4) (sym (drop-drop 4 614 front) ∙ ap (drop 4) behind_marks);
    }

pub parts : BitsPacked → (h : Header) → FieldsFit h → Parts (front_of h) h
parts law h fits = subst (λ (front : List ℕ). Parts front h) (sym (front_is h)) (formed_parts law (version_byte h.version) h fits refl)

formed_size : BitsPacked → (byte : ℕ) (h : Header) → FieldsFit h → length (formed (form_of byte) h) ≡ 622
formed_size law byte h fits =
    let name = fits.running_name.digest_size in
    let goal = goal_size h.goal fits.goal in
    let marks : List ℕ = packed (take first_limit h.marks) in
    let size = first_size law h.marks (enough h fits) in
    let running : List ℕ = to_be_bytes w32 h.running_name.release in
    let last : List ℕ = to_be_bytes w32 (goal_release h.goal) in
    omega (
      arith,
      length-append (((h.running_name.digest ++ goal_bytes h.goal) ++ marks) ++ running) last,
      length-append ((h.running_name.digest ++ goal_bytes h.goal) ++ marks) running,
      length-append (h.running_name.digest ++ goal_bytes h.goal) marks,
      length-append h.running_name.digest (goal_bytes h.goal),
    )

pub front_size : BitsPacked → (h : Header) → FieldsFit h → length (front_of h) ≡ 622
front_size law h fits = ap length (front_is h) ∙ formed_size law (version_byte h.version) h fits

pub size_of_header : BitsPacked → (h : Header) → FieldsFit h → length (header_bytes h) ≡ header_size h.version
size_of_header law h fits =
    let others : List ℕ = packed (drop first_limit h.marks) in
    let front = front_size law h fits in
    let all = others_size law h.version h.marks fits.marks in
    ap length (header_is h) ∙ omega (arith, length-append (front_of h) others)

-- the bytes of a header in two
pub take-header : BitsPacked → (h : Header) → FieldsFit h → take 622 (header_bytes h) ≡ front_of h
take-header law h fits = ap (take 622) (header_is h) ∙ take_at (front_of h) (packed (drop first_limit h.marks)) 622 (front_size law h fits)

pub drop-header : BitsPacked → (h : Header) → FieldsFit h → drop 622 (header_bytes h) ≡ packed (drop first_limit h.marks)
drop-header law h fits = ap (drop 622) (header_is h) ∙ drop_at (front_of h) (packed (drop first_limit h.marks)) 622 (front_size law h fits)

-- and those of the bytes that are read
pub parts_in : BitsPacked → (h : Header) (bytes front : List ℕ) → FieldsFit h → header_bytes h ≡ bytes → front ≡ take 622 bytes → Parts front h
parts_in law h bytes front fits e is =
    subst (λ (front : List ℕ). Parts front h) (sym (is ∙ ap (take 622) (sym e) ∙ take-header law h fits)) (parts law h fits)

-- ---- each byte or part gives its field back

version_at : ℕ → HeaderVersion
version_at n = cond (eqb n 0x31) One Two

version_again : (version : HeaderVersion) → version_at (version_byte version) ≡ version
unfolding version_at
version_again One = refl
version_again Two = refl

-- the size says the version
pub same_version : (a b : HeaderVersion) → header_size a ≡ header_size b → a ≡ b
same_version One One e = refl
same_version One Two e = absurd (omega arith)
same_version Two One e = absurd (omega arith)
same_version Two Two e = refl

pub flag_again : (b : Bool) → eqb (flag b) 1 ≡ b
flag_again true = refl
flag_again false = refl

slot_at : ℕ → Slot
slot_at n = cond (eqb n 0) First Second

slot_again : (slot : Slot) → slot_at (slot_number slot) ≡ slot
unfolding slot_at
slot_again First = refl
slot_again Second = refl

status_at : ℕ → StoredStatus
status_at n = cond (eqb n 0) NotInitiated (cond (eqb n 1) Initiated (cond (eqb n 3) VerificationSuccessful (cond (eqb n 4) VerificationFailed ActivationSuccessful)))

status_again : (status : StoredStatus) → status_at (status_number status) ≡ status
unfolding status_at
status_again NotInitiated = refl
status_again Initiated = refl
status_again VerificationSuccessful = refl
status_again VerificationFailed = refl
status_again ActivationSuccessful = refl

pub number_again : (n : ℕ) → n < 2 ^ 32 → from_be_bytes w32 (to_be_bytes w32 n) ≡ n
number_again n fits = from_be_bytes-to_be_bytes_4 n fits

pub same_number : (m n : ℕ) → m < 2 ^ 32 → n < 2 ^ 32 → to_be_bytes w32 m ≡ to_be_bytes w32 n → m ≡ n
same_number m n fits fits' e = sym (number_again m fits) ∙ ap (from_be_bytes w32) e ∙ number_again n fits'

-- the bytes of a stored name spell that name without its release
pub spells : (name : Name) → IsName name → SpellsName (stored_name_bytes name) (record name { release = 0 })
spells name is = record {
  is_name = record {
    is_campaign = is.is_campaign;
    is_release = record { fits = omega arith; none = λ _. refl };
    digest_size = is.digest_size;
  };
  spelled = refl;
}

same_name : OneName → (a b : Name) → IsName a → IsName b → stored_name_bytes a ≡ stored_name_bytes b → a.release ≡ b.release → a ≡ b
same_name law a b is is' e release =
    let bare : record a { release = 0 } ≡ record b { release = 0 } =
    law (stored_name_bytes a) (record a { release = 0 }) (record b { release = 0 }) (spells a is)
    (subst (λ (bytes : List ℕ). SpellsName bytes (record b { release = 0 })) (sym e) (spells b is')) in
    λ i. record { campaign = (bare i).campaign; release = release i; digest = (bare i).digest }

-- zeros are no goal's bytes: a name begins with 1
no_goal : (goal : Goal) → goal_bytes None ≡ goal_bytes (Some goal) → ⊥
no_goal goal e = suc-ne-zero 0 (ap (λ (bytes : List ℕ). get_or bytes 4 0) (sym e))

same_goal : OneName → (a b : Option Goal) → IfSome a GoalFieldsFit → IfSome b GoalFieldsFit → goal_bytes a ≡ goal_bytes b
    → goal_release a ≡ goal_release b → a ≡ b
same_goal law None None fits fits' e release = refl
same_goal law None (Some b) fits fits' e release = absurd (no_goal b e)
same_goal law (Some a) None fits fits' e release = absurd (no_goal a (sym e))
same_goal law (Some a) (Some b) fits fits' e release =
    let size = same_number a.size b.size fits.size fits'.size (ap (take 4) e) in
    let name = same_name law a.name b.name fits.name fits'.name (ap (drop 4) e) release in
    λ i. Some (record { name = name i; size = size i })

pub goal_release_fits : (goal : Option Goal) → IfSome goal GoalFieldsFit → goal_release goal < 2 ^ 32
goal_release_fits None fits = omega arith
goal_release_fits (Some goal) fits = fits.name.is_release.fits

-- marks in two
same_marks : OneSetForBytes → (a b : List Bool) → length a ≡ length b → packed (take first_limit a) ≡ packed (take first_limit b)
    → packed (drop first_limit a) ≡ packed (drop first_limit b) → a ≡ b
same_marks law a b size first others =
    let left : length (take first_limit a) ≡ length (take first_limit b) = omega (arith, length-take first_limit a, length-take first_limit b) in
    let right : length (drop first_limit a) ≡ length (drop first_limit b) = omega (arith, length-drop first_limit a, length-drop first_limit b) in
    let front = law (take first_limit a) (take first_limit b) left first in
    let back = law (drop first_limit a) (drop first_limit b) right others in
    sym (take-append-drop first_limit a) ∙ (λ i. front i ++ back i) ∙ take-append-drop first_limit b

-- the same first bytes and the same last ones are those of one header
same_header : OneName → OneSetForBytes → (front : List ℕ) (a b : Header) → FieldsFit a → FieldsFit b → Parts front a → Parts front b
    → packed (drop first_limit a.marks) ≡ packed (drop first_limit b.marks) → a ≡ b
same_header law marks_law front a b fits fits' p q others =
    let version = sym (version_again a.version) ∙ ap version_at (sym p.version ∙ q.version) ∙ version_again b.version in
    let enabled = sym (flag_again a.enabled) ∙ ap (λ (n : ℕ). eqb n 1) (sym p.enabled ∙ q.enabled) ∙ flag_again b.enabled in
    let slot = sym (slot_again a.running_slot) ∙ ap slot_at (sym p.running_slot ∙ q.running_slot) ∙ slot_again b.running_slot in
    let status = sym (status_again a.status) ∙ ap status_at (sym p.status ∙ q.status) ∙ status_again b.status in
    let block_size = same_number a.block_size b.block_size fits.block_size fits'.block_size (sym p.block_size ∙ q.block_size) in
    let running_size = same_number a.running_size b.running_size fits.running_size fits'.running_size (sym p.running_size ∙ q.running_size) in
    let release = same_number a.running_name.release b.running_name.release fits.running_name.is_release.fits fits'.running_name.is_release.fits
    (sym p.running_release ∙ q.running_release) in
    let name = same_name law a.running_name b.running_name fits.running_name fits'.running_name (sym p.running_name ∙ q.running_name) release in
    let goal_release = same_number (goal_release a.goal) (goal_release b.goal) (goal_release_fits a.goal fits.goal) (goal_release_fits b.goal fits'.goal)
    (sym p.goal_release ∙ q.goal_release) in
    let goal = same_goal law a.goal b.goal fits.goal fits'.goal (sym p.goal ∙ q.goal) goal_release in
    let count : length a.marks ≡ length b.marks = fits.marks ∙ ap block_limit version ∙ sym fits'.marks in
    let marks = same_marks marks_law a.marks b.marks count (sym p.marks ∙ q.marks) others in
    λ i. record {
      version = version i;
      enabled = enabled i;
      running_slot = slot i;
      status = status i;
      block_size = block_size i;
      running_size = running_size i;
      running_name = name i;
      goal = goal i;
      marks = marks i;
    }

-- a byte string is at most one header's
pub one_header : BitsPacked → OneName → OneSetForBytes → (a b : Header) → FieldsFit a → FieldsFit b → header_bytes a ≡ header_bytes b → a ≡ b
one_header law names marks_law a b fits fits' e =
    let front : front_of b ≡ front_of a = sym (take-header law b fits') ∙ ap (take 622) (sym e) ∙ take-header law a fits in
    let others = sym (drop-header law a fits) ∙ ap (drop 622) e ∙ drop-header law b fits' in
    same_header names marks_law (front_of a) a b fits fits' (parts law a fits) (subst (λ (front : List ℕ). Parts front b) front (parts law b fits')) others

-- ---- what is read in the code

-- if the goal is there and bytes of a goal and its release are read as that goal, it is the header's
pub goal_read : (goal result : Option Goal) (byte : ℕ) (bytes : List ℕ) (release : ℕ) → IfSome goal GoalFieldsFit → byte ≡ flag (is_some goal) → byte ≡ 1
    → bytes ≡ goal_bytes goal → release ≡ goal_release goal
    → ((one : Goal) → GoalFieldsFit one → goal_bytes (Some one) ≡ bytes → one.name.release ≡ release → result ≡ Some one) → result ≡ goal
goal_read None result byte bytes release fits present there e same read = absurd (suc-ne-zero 0 (sym there ∙ present))
goal_read (Some one) result byte bytes release fits present there e same read = read one fits (sym e) (sym same)

-- if it is not there, there is none
pub no_goal_read : (goal : Option Goal) (byte : ℕ) → byte ≡ flag (is_some goal) → byte ≢ 1 → None ≡ goal
no_goal_read None byte present other = refl
no_goal_read (Some one) byte present other = absurd (other present)
