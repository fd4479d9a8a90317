-- What is written is read back.
use Rattle.std.proofs.Common.{◌≡◌, ◌+◌, ◌<◌, ◌≤◌, ◌^◌, leb, ltb, le-leb, lt-ltb, ℕ, true, List, [], ◌∷◌, ◌++◌, length, map, get_or, take, flat_map, All, decimal, Some, Ok, refl, sym, ap, subst, ◌∙◌, arith, rules, append_assoc, append-nil}
use Rattle.std.specs.List.{AllZip, list_all}
use Rattle.std.specs.Char.{is_ascii_digit}
use Rattle.std.specs.Str.Parse.{digits_value}
use Rattle.std.specs.declared.net.socket_addr.SocketAddr.{SocketAddr}
use Rattle.std.specs.Net.Grammar.{IsSocketText}
use Rattle.std.specs.Net.Socket.{socket_flowinfo}
use Rattle.std.specs.Net.Text.{socket_text}
use Rattle.std.proofs.lemmas.Fmt.{decimal_nonempty, digits_decimal, digits_value-decimal, length-decimal-le}
use Rattle.std.proofs.lemmas.List.{take_more}
use Rattle.std.proofs.lemmas.List.Concat.{flat_map-append}
use Rattle.std.proofs.lemmas.List.Elements.{All-cons, All-head, All-nil, All-tail}
use Rattle.std.proofs.lemmas.Str.Parse.{IsNumeralModel, numerals_by_value}
use Rattle.hex.specs.Hex.{decode_sized, encode_lower}
use Rattle.fw_text.specs.Laws.{IsLine, text_of}
use Rattle.fw_text.specs.Lines.{lines_of}
use Rattle.fw_text.specs.Words.{number_of}
use Rattle.fw_text.proofs.LineLemmas.{lines_are_cut}
use Rattle.fw_keys.specs.declared.entry.Entry.{Entry}
use Rattle.fw_keys.specs.declared.entry.LinkKeys.{LinkKeys}
use Rattle.fw_keys.specs.KeyFiles.{NamesMeter, Spells, SpellsHeadKeys, SpellsMeterKeys}
use Rattle.fw_keys.specs.Links.{AreLinks, Links}
use Rattle.fw_keys.specs.Private.{AreWritten, IsWritten}
use Rattle.fw_keys.specs.Titles.{head_title}
use Rattle.fw_keys.specs.Writing.{ReadsBack, link_line, links_text, title_line}
use Rattle.fw_keys.proofs.Plain.{plain_decimal, plain_hex, plain_line}

-- ---- numbers

own_digits : IsNumeralModel (λ ds. list_all is_ascii_digit ds ≡ true) (digits_value 10)
own_digits = numerals_by_value _ (search rules)

said : (word : List ℕ) (n : ℕ) → leb 1 (length word) ≡ true → leb (length word) 10 ≡ true → list_all is_ascii_digit word ≡ true → digits_value 10 word ≡ n → ltb n 4294967296 ≡ true
    → number_of word ≡ Some n
said word n some few digits value fits = rw (some, few, digits, value, fits) refl

pub number_back : (n : ℕ) → n < 2 ^ 32 → ReadsBack NamesMeter (decimal n) n
number_back n fits =
    let wide : n < 2 ^ 64 = omega (arith, fits) in
    let short : length (decimal n) ≤ 10 = length-decimal-le 10 n (omega arith) (omega (arith, fits)) wide in
    record {
      plain = plain_decimal n wide;
      named = said (decimal n) n (le-leb 1 (length (decimal n)) (decimal_nonempty n wide)) (le-leb (length (decimal n)) 10 short) (digits_decimal own_digits n wide)
          (digits_value-decimal own_digits n wide) (lt-ltb n 4294967296 fits);
    }

-- ---- lines

-- a line without its line feed
abbrev line_of : List ℕ → LinkKeys → List ℕ
line_of name keys = name ++ 44 ∷ encode_lower keys.title ++ 44 ∷ encode_lower keys.encryption ++ 44 ∷ encode_lower keys.authentication

abbrev lines_for : {N : Type 0} → (N → List ℕ) → List (Entry N) → List (List ℕ)
lines_for {N} text entries = map (λ (e : Entry N). line_of (text e.end) e.keys) entries

as_text : {N : Type 0} (text : N → List ℕ) (entries : List (Entry N)) → links_text text entries ≡ text_of (lines_for text entries)
as_text text [] = refl
as_text text (e ∷ entries) =
    append_assoc (line_of (text e.end) e.keys) (10 ∷ []) (links_text text entries) ∙ ap (λ (l : List ℕ). line_of (text e.end) e.keys ++ 10 ∷ l) (as_text text entries)

text_more : {N : Type 0} (text : N → List ℕ) (entries : List (Entry N)) (i : ℕ) (entry : Entry N) → i < length entries → entry ≡ get_or entries i entry
    → links_text text (take (i + 1) entries) ≡ links_text text (take i entries) ++ link_line (text entry.end) entry.keys
text_more {N} text entries i entry inside is =
    let line : Entry N → List ℕ = λ e. link_line (text e.end) e.keys in
    let parts : take (i + 1) entries ≡ take i entries ++ entry ∷ [] = take_more entries i entry inside ∙ ap (λ (e : Entry N). take i entries ++ e ∷ []) (sym is) in
    ap (λ (es : List (Entry N)). links_text text es) parts ∙ flat_map-append line (take i entries) (entry ∷ [])
    ∙ ap (λ (l : List ℕ). links_text text (take i entries) ++ l) (append-nil (link_line (text entry.end) entry.keys))

-- one line more
pub lines_more : {N : Type 0} (text : N → List ℕ) (entries : List (Entry N)) (i : ℕ) (entry : Entry N) (old now next : List ℕ) → i < length entries → entry ≡ get_or entries i entry
    → now ≡ old ++ links_text text (take i entries) → next ≡ now ++ link_line (text entry.end) entry.keys → next ≡ old ++ links_text text (take (i + 1) entries)
lines_more text entries i entry old now next inside is so_far more =
    more ∙ ap (λ (l : List ℕ). l ++ link_line (text entry.end) entry.keys) so_far
    ∙ append_assoc old (links_text text (take i entries)) (link_line (text entry.end) entry.keys)
    ∙ ap (λ (l : List ℕ). old ++ l) (sym (text_more text entries i entry inside is))

-- what is known of a link once it is written
abbrev pub IsBack : {N : Type 0} → (List ℕ → N → Type 0) → (N → List ℕ) → Entry N → Type 0
IsBack Names text entry = IsWritten entry.keys × ReadsBack Names (text entry.end) entry.end

-- links whose names' texts show all of them
pub all_back : {N : Type 0} (Names : List ℕ → N → Type 0) (text : N → List ℕ) (shown : N → Type 0) (entries : List (Entry N)) → AreWritten Names text shown entries
    → All (λ (e : Entry N). shown e.end) entries → All (λ (e : Entry N). IsBack Names text e) entries
all_back Names text shown entries written all = λ k d within. ((written k d within).0, (written k d within).1 (all k d within))

plain_link : {N : Type 0} (Names : List ℕ → N → Type 0) (text : N → List ℕ) (e : Entry N) → IsBack Names text e → IsLine (line_of (text e.end) e.keys)
plain_link Names text e back =
    plain_line (text e.end) (encode_lower e.keys.title) (encode_lower e.keys.encryption) (encode_lower e.keys.authentication) back.1.plain
    (plain_hex (encode_lower e.keys.title) 8 e.keys.title back.0.title) (plain_hex (encode_lower e.keys.encryption) 16 e.keys.encryption back.0.encryption)
    (plain_hex (encode_lower e.keys.authentication) 16 e.keys.authentication back.0.authentication)

plain_links : {N : Type 0} (Names : List ℕ → N → Type 0) (text : N → List ℕ) (entries : List (Entry N)) → All (λ (e : Entry N). IsBack Names text e) entries → All IsLine (lines_for text entries)
plain_links Names text [] all = All-nil IsLine
plain_links {N} Names text (e ∷ entries) all =
    All-cons IsLine (line_of (text e.end) e.keys) (lines_for text entries) (plain_link Names text e (All-head (λ (x : Entry N). IsBack Names text x) e entries all))
    (plain_links Names text entries (All-tail (λ (x : Entry N). IsBack Names text x) e entries all))

spells_link : {N : Type 0} (Names : List ℕ → N → Type 0) (text : N → List ℕ) (e : Entry N) → IsBack Names text e → Spells Names (line_of (text e.end) e.keys) e
spells_link Names text e back = record {
  name = text e.end;
  link = record {
    title = encode_lower e.keys.title;
    encryption = encode_lower e.keys.encryption;
    authentication = encode_lower e.keys.authentication;
    parts = refl;
    is_title = back.0.title;
    is_encryption = back.0.encryption;
    is_authentication = back.0.authentication;
  };
  named = back.1.named;
}

spells_links : {N : Type 0} (Names : List ℕ → N → Type 0) (text : N → List ℕ) (entries : List (Entry N)) → All (λ (e : Entry N). IsBack Names text e) entries
    → AllZip (λ line entry. Spells Names line entry) (lines_for text entries) entries
spells_links Names text [] all = tt
spells_links {N} Names text (e ∷ entries) all = (
  spells_link Names text e (All-head (λ (x : Entry N). IsBack Names text x) e entries all),
  spells_links Names text entries (All-tail (λ (x : Entry N). IsBack Names text x) e entries all),
)

cut_links : {N : Type 0} (Names : List ℕ → N → Type 0) (text : N → List ℕ) (entries : List (Entry N)) → All (λ (e : Entry N). IsBack Names text e) entries
    → lines_of (links_text text entries) ≡ lines_for text entries
cut_links Names text entries all =
    ap (λ (t : List ℕ). lines_of t) (as_text text entries) ∙ (lines_are_cut (lines_for text entries) (plain_links Names text entries all)).0

links_read : {N : Type 0} (Names : List ℕ → N → Type 0) (text : N → List ℕ) (entries : List (Entry N)) → All (λ (e : Entry N). IsBack Names text e) entries
    → AllZip (λ line entry. Spells Names line entry) (lines_of (links_text text entries)) entries
links_read {N} Names text entries all =
    subst (λ (ls : List (List ℕ)). AllZip (λ (line : List ℕ) (entry : Entry N). Spells Names line entry) ls entries) (sym (cut_links Names text entries all))
    (spells_links Names text entries all)

-- ---- files

pub head_read : (text : List ℕ) (head : ℕ) (file : Links ℕ) → file.own ≡ head_title head → text ≡ links_text decimal file.entries → All (λ (e : Entry ℕ). IsBack NamesMeter decimal e) file.entries
    → AreLinks file.own file.entries → SpellsHeadKeys text head file
head_read text head file own is all links = record {
  own = own;
  spells = rw is (links_read NamesMeter decimal file.entries all);
  links = links;
}

pub meter_read : (text : List ℕ) (file : Links SocketAddr) → text ≡ title_line file.own ++ links_text socket_text file.entries → decode_sized (encode_lower file.own) 8 ≡ Ok file.own
    → All (λ (e : Entry SocketAddr). IsBack IsSocketText socket_text e) file.entries → AreLinks file.own file.entries → SpellsMeterKeys text file
meter_read text file is own all links =
    let title = encode_lower file.own in
    let more = lines_for socket_text file.entries in
    let plain : All IsLine (title ∷ more) = All-cons IsLine title more (plain_hex title 8 file.own own) (plain_links IsSocketText socket_text file.entries all) in
    let parts : text ≡ text_of (title ∷ more) =
    is ∙ append_assoc title (10 ∷ []) (links_text socket_text file.entries) ∙ ap (λ (l : List ℕ). title ++ 10 ∷ l) (as_text socket_text file.entries) in
    record {
      first = title;
      others = more;
      lines = ap (λ (t : List ℕ). lines_of t) parts ∙ (lines_are_cut (title ∷ more) plain).0;
      own = own;
      spells = spells_links IsSocketText socket_text file.entries all;
      links = links;
    }
