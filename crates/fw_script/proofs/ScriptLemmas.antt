-- What the words after the first one say.
use Rattle.std.proofs.Common.{◌≡◌, ℕ, ◌<◌, List, [], ◌∷◌, length, map, Option, Some, None, refl, ap, arith}
use Rattle.std.specs.Prelude.{option_map, is_some, IsSome, true}
use Rattle.fw_world.specs.Step.{Event, deliver}
use Rattle.fw_text.specs.Words.{at_end, numbers_of, words_behind}
use Rattle.fw_script.specs.Script.{events_item, deliver_line}
use Rattle.fw_text.proofs.WordLemmas.{words_cut}

-- a text that isn't empty has a word
pub goes_on : (rest : List ℕ) → 0 < length rest → at_end (words_behind rest) ≡ None
goes_on [] some = absurd (omega arith)
goes_on (space ∷ text) some = rw (words_cut text) refl

pub delivers : (rest : List ℕ) → 0 < length rest → deliver_line (words_behind rest) ≡ option_map (λ numbers. events_item (map deliver numbers)) (numbers_of (words_behind rest))
delivers [] some = absurd (omega arith)
delivers (space ∷ text) some = rw (words_cut text) refl

some_said : (o : Option (List ℕ)) → is_some o ≡ true → IsSome (option_map (λ numbers. events_item (map deliver numbers)) o)
some_said None some = cc some
some_said (Some numbers) some = refl

pub says_some : (rest : List ℕ) → 0 < length rest → is_some (numbers_of (words_behind rest)) ≡ true → IsSome (deliver_line (words_behind rest))
says_some rest some numbers = rw (delivers rest some) (some_said (numbers_of (words_behind rest)) numbers)

pub said_by : (o : Option (List ℕ)) (events : List Event) → option_map (map deliver) o ≡ Some events → option_map (λ numbers. events_item (map deliver numbers)) o ≡ Some (events_item events)
said_by None events same = cc same
said_by (Some numbers) events same = let inner : map deliver numbers ≡ events = cc same in ap (λ (es : List Event). Some (events_item es)) inner
