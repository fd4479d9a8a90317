-- The files of new keys.
use Rattle.std.proofs.Common.{◌≡◌, ◌<◌, ◌+◌, ◌++◌, ◌∙◌, ℕ, zero, suc, List, [], ◌∷◌, Result, Ok, Err, IfOk, ap, get_or, length, map, take, refl, subst, sym, arith}
use Rattle.std.specs.Prelude.{All, Contains, decimal}
use Rattle.std.specs.Net.Socket.{socket_flowinfo}
use Rattle.std.specs.Net.Text.{socket_text}
use Rattle.std.specs.declared.net.socket_addr.SocketAddr.{SocketAddr}
use Rattle.std.proofs.lemmas.List.{take_more}
use Rattle.std.proofs.lemmas.List.Elements.{All-push}
use Rattle.fw_keys.specs.declared.entry.Entry.{Entry}
use Rattle.fw_keys.specs.KeyFiles.{SpellsHeadKeys, SpellsMeterKeys}
use Rattle.fw_keys.specs.Links.{Links}
use Rattle.fw_keys.specs.Making.{new_entry, other_file}
use Rattle.fw_keys.specs.Writing.{AreShown, links_text, title_line}
use Rattle.fw_key_files.specs.Making.{IsFileOf, IsNewLink, KeyText, all_owners, ends_in, owners_of, path_in, with_link}
use Rattle.fw_key_files.specs.declared.making.MakingKeys.{MakingKeys}
use Rattle.fw_key_files.specs.declared.owner.Owner.{Owner}
use Rattle.fw_key_files.specs.declared.owner.Owner.TheVariants.{Head, Meter}

map_more : {A B : Type 0} (f : A → B) (xs : List A) (x : A) → map f (xs ++ x ∷ []) ≡ map f xs ++ f x ∷ []
map_more f [] x = refl
map_more {A} {B} f (y ∷ xs) x = ap (λ (rest : List B). f y ∷ rest) (map_more f xs x)

-- ---- one link more

pub ends_more : (old new : Links ℕ) (meters bytes : List ℕ) (i meter : ℕ) → new ≡ with_link old meter bytes → ends_in old.entries ≡ take i meters
    → i < length meters → get_or meters i meter ≡ meter → ends_in new.entries ≡ take (i + 1) meters
ends_more old new meters bytes i meter is so_far within at =
    ap (λ (keys : Links ℕ). ends_in keys.entries) is
    ∙ map_more (λ (entry : Entry ℕ). entry.end) old.entries (new_entry meter bytes)
    ∙ ap (λ (ends : List ℕ). ends ++ meter ∷ []) so_far
    ∙ ap (λ (n : ℕ). take i meters ++ n ∷ []) (sym at)
    ∙ sym (take_more meters i meter within)

pub links_more : (Gave : List ℕ → Type 0) (old new : Links ℕ) (bytes : List ℕ) (meter : ℕ) → new ≡ with_link old meter bytes → Gave bytes
    → All (λ entry. IsNewLink Gave entry) old.entries → All (λ entry. IsNewLink Gave entry) new.entries
links_more Gave old new bytes meter is gave so_far =
    subst (λ (keys : Links ℕ). All (λ entry. IsNewLink Gave entry) keys.entries) (sym is)
    (All-push (λ entry. IsNewLink Gave entry) old.entries (new_entry meter bytes) so_far (bytes, gave, refl))

-- ---- files

abbrev text_of : MakingKeys → Owner → List ℕ → KeyText
text_of making owner text = record { owner = owner; path = path_in making.folder.now owner; text = text }

pub head_made : {E : Type 0} (making : MakingKeys) (keys : Links ℕ) (text : List ℕ) (result : Result KeyText E) → text ≡ links_text decimal keys.entries
    → SpellsHeadKeys text making.head keys → IfOk result (λ file. file ≡ text_of making Head text)
    → IfOk result (λ file. (file.owner ≡ Head) × IsFileOf making keys file)
head_made making keys text (Ok file) lines spells is =
    subst (λ (f : KeyText). (f.owner ≡ Head) × IsFileOf making keys f) (sym is)
    (refl, record { path = refl; text = record { lines = lines; spells = spells } })
head_made making keys text (Err e) lines spells is = tt

one_shown : (entry : Entry SocketAddr) → socket_flowinfo entry.end ≡ 0 → AreShown (entry ∷ [])
one_shown entry is zero d within = is
one_shown entry is (suc k) d within = let none : ⊥ = omega (arith, within) in absurd none

-- the file of a meter's one link
abbrev IsOther : MakingKeys → Links ℕ → ℕ → Links SocketAddr → Type 0
IsOther making keys meter file =
    (entry : Entry ℕ) × Contains keys.entries entry × (entry.end ≡ meter) × (file ≡ other_file keys.own entry making.address)

pub meter_made : {E : Type 0} (making : MakingKeys) (keys : Links ℕ) (meter : ℕ) (other : Links SocketAddr) (text : List ℕ) (result : Result KeyText E)
    → IsOther making keys meter other → text ≡ title_line other.own ++ links_text socket_text other.entries
    → (AreShown other.entries → SpellsMeterKeys text other) → IfOk result (λ file. file ≡ text_of making (Meter meter) text)
    → IfOk result (λ file. (file.owner ≡ Meter meter) × IsFileOf making keys file)
meter_made making keys meter other text (Ok file) (entry, within, end, same) lines spells is =
    subst (λ (f : KeyText). (f.owner ≡ Meter meter) × IsFileOf making keys f) (sym is) (
      refl,
      record {
        path = refl;
        text = record {
          entry = entry;
          within = within;
          end = end;
          lines = lines ∙ ap (λ (f : Links SocketAddr). title_line f.own ++ links_text socket_text f.entries) same;
          spells = λ shown. subst (λ (f : Links SocketAddr). SpellsMeterKeys text f) same
              (spells (subst (λ (f : Links SocketAddr). AreShown f.entries) (sym same) (one_shown _ shown)));
        };
      },
    )
meter_made making keys meter other text (Err e) are lines spells is = tt

-- ---- one file more

all_more : (meters : List ℕ) (meter : ℕ) → all_owners (meters ++ meter ∷ []) ≡ all_owners meters ++ Meter meter ∷ []
all_more meters meter = ap (λ (rest : List Owner). Head ∷ rest) (map_more (λ (m : ℕ). Meter m) meters meter)

pub owners_more : (files : List KeyText) (file : KeyText) (meters : List ℕ) (i meter : ℕ) → owners_of files ≡ all_owners (take i meters) → i < length meters
    → get_or meters i meter ≡ meter → file.owner ≡ Meter meter → owners_of (files ++ file ∷ []) ≡ all_owners (take (i + 1) meters)
owners_more files file meters i meter so_far within at one =
    map_more (λ (f : KeyText). f.owner) files file
    ∙ ap (λ (owners : List Owner). owners ++ file.owner ∷ []) so_far
    ∙ ap (λ (owner : Owner). all_owners (take i meters) ++ owner ∷ []) one
    ∙ sym (all_more (take i meters) meter)
    ∙ ap (λ (n : ℕ). all_owners (take i meters ++ n ∷ [])) (sym at)
    ∙ ap (λ (ms : List ℕ). all_owners ms) (sym (take_more meters i meter within))
