-- What is said of the part of a text that was read, said of the text.
use Rattle.std.proofs.Common.{◌≡◌, ◌≢◌, ◌⊎◌, ℕ, ◌+◌, ◌<◌, ◌≤◌, Option, Some, None, Result, Ok, Err, List, [], length, take, codes, option_map}
use Rattle.std.proofs.Common.{IfOk, IfErr, IfSome}
use Rattle.std.proofs.Common.{Bor, inl, inr, refl, sym, ◌∙◌, ap, subst, true, arith}
use Rattle.std.specs.Prelude.{nat_lt}
use Rattle.std.proofs.lemmas.Bool.{cases_lt, lt-ltb}
use Rattle.std.proofs.lemmas.List.{take_all, length-take}
use Rattle.fx_text.specs.declared.fault.TextKind.TheVariants as kind
use Rattle.fx_text.specs.declared.pick.Pick.{Pick}
use Rattle.fx_text.specs.Limits.{most_bytes, most_schedule_bytes}
use Rattle.fx_text.specs.Meaning.{Meaning}
use Rattle.fx_text.specs.Grammar.{IsScript}
use Rattle.fx_text.specs.Schedule.{IsSchedule, nothing, schedule_reading}
use Rattle.fx_report.specs.Answering.{most_read}
use Rattle.fx_report.proofs.Answered.{read_long}
use Rattle.fx_command.specs.declared.command_fault.CommandFault.{CommandFault}
use Rattle.fx_command.specs.declared.command_fault.CommandFault.TheVariants.{Refused, Unreadable, Memory, Write, Run}
use Rattle.fx_command.specs.CommandFault.{IsRefusal, IsUnreadOrRefusal}
use Rattle.fx_command.specs.Refused.{IsNoScript, IsNoSchedule}
use Rattle.fx_command.specs.Fetched.{IsPrefixOf, OfText, ReadsScript, FetchesAll, KeepsFiles}
use Rattle.fx_command.specs.CommandAnswer.{known_text}

-- the text was read whole, or it is too long and so is what was read of it
same_or_long : (most : ℕ) (text read : List ℕ) → read ≡ take (1 + most) text → (read ≡ text) ⊎ ((most < length read) × (most < length text))
same_or_long most text read e = elim (cases_lt (length text) (1 + most)) [
  | inl lt ↦ inl (e ∙ take_all (1 + most) text (omega arith))
  | inr le ↦
      let long : most < length read = rw e (simp length-take (omega arith)) in
      inr (long, omega arith)
]

-- what all texts have in common that are too long holds of the text where it holds of what was read
of_prefix : (Holds : List ℕ → Type 0) (most : ℕ) (text read : List ℕ) → (most < length read → most < length text → Holds read → Holds text)
    → read ≡ take (1 + most) text → Holds read → Holds text
of_prefix Holds most text read of_long e h = elim (same_or_long most text read e) [
  | inl same ↦ subst Holds same h
  | inr long ↦ of_long long.0 long.1 h
]

-- one byte more than a schedule may have is all that is read of one
abbrev pub most_of_schedule : ℕ
most_of_schedule = 1 + most_schedule_bytes

-- a schedule that is too long has that for its first fault
long_schedule : (text : List ℕ) → most_schedule_bytes < length text → schedule_reading text ≡ Err (record { kind = kind.Length; at = most_schedule_bytes })
long_schedule text h = let long : nat_lt most_schedule_bytes (length text) ≡ true = lt-ltb _ _ h in rw long refl

abbrev pub HoldsOfPrefix : (List ℕ → Type 0) → ℕ → Type 0
HoldsOfPrefix Holds most = (text read : List ℕ) → read ≡ take most text → Holds read → Holds text

pub script_of_prefix : (m : Meaning) → HoldsOfPrefix (λ text. IsScript text m) most_read
script_of_prefix m text read = of_prefix (λ text. IsScript text m) most_bytes text read (λ h k s. absurd (let short = s.short in omega arith))

pub schedule_of_prefix : (ps : List Pick) → HoldsOfPrefix (λ text. IsSchedule text ps) most_of_schedule
schedule_of_prefix ps text read = of_prefix (λ text. IsSchedule text ps) most_schedule_bytes text read (λ h k s. absurd (let short = s.short in omega arith))

pub no_script_of_prefix : (line : List ℕ) → HoldsOfPrefix (IsNoScript line) most_read
no_script_of_prefix line text read = of_prefix (IsNoScript line) most_bytes text read (λ h k no. record {
  none = λ m s. let short = s.short in omega arith;
  fault = no.fault;
  first = read_long text k ∙ sym (read_long read h) ∙ no.first;
  told = no.told;
})

pub no_schedule_of_prefix : (line : List ℕ) → HoldsOfPrefix (IsNoSchedule line) most_of_schedule
no_schedule_of_prefix line text read = of_prefix (IsNoSchedule line) most_schedule_bytes text read (λ h k no. record {
  none = λ ps s. let short = s.short in omega arith;
  fault = no.fault;
  first = long_schedule text k ∙ sym (long_schedule read h) ∙ no.first;
  told = no.told;
})

-- so it holds of the text of which so much is known
pub of_text : (Holds : List ℕ → Type 0) (most : ℕ) (known : Option (List ℕ)) (read : List ℕ) → HoldsOfPrefix Holds most → IsPrefixOf most known read
    → Holds read → OfText known Holds
of_text Holds most None read of p h = record { text = read; is = tt; holds = h }
of_text Holds most (Some all) read of p h = record { text = all; is = refl; holds = of all read p.first h }

-- and so do the two answers of a reader
pub if_fetched : {X : Type 0} (Says : X → List ℕ → Type 0) (most : ℕ) (known : Option (List ℕ)) (read : List ℕ) (r : Result X CommandFault)
    → ((x : X) → HoldsOfPrefix (Says x) most) → IsPrefixOf most known read → IfOk r (λ x. Says x read) → IfOk r (λ x. OfText known (Says x))
if_fetched Says most known read (Ok x) of p h = of_text (Says x) most known read (of x) p h
if_fetched Says most known read (Err f) of p h = tt

pub if_not_fetched : {X : Type 0} (IsName : List ℕ → Type 0) (Refuses : List ℕ → List ℕ → Type 0) (most : ℕ) (known : Option (List ℕ)) (read : List ℕ)
    (r : Result X CommandFault) → ((line : List ℕ) → HoldsOfPrefix (Refuses line) most) → IsPrefixOf most known read
    → IfErr r (λ f. IsRefusal (λ line. Refuses line read) f) → IfErr r (λ f. IsUnreadOrRefusal IsName (λ line. OfText known (Refuses line)) f)
if_not_fetched IsName Refuses most known read (Ok x) of p h = tt
if_not_fetched IsName Refuses most known read (Err (Refused r)) of p h = of_text (Refuses _) most known read (of _) p h
if_not_fetched IsName Refuses most known read (Err Memory) of p h = tt
if_not_fetched IsName Refuses most known read (Err (Unreadable n)) of p h = absurd h
if_not_fetched IsName Refuses most known read (Err Write) of p h = absurd h
if_not_fetched IsName Refuses most known read (Err (Run fault)) of p h = absurd h

pub not_fetched : (IsName : List ℕ → Type 0) (Refuses : List ℕ → List ℕ → Type 0) (most : ℕ) (known : Option (List ℕ)) (read : List ℕ) (f : CommandFault)
    → ((line : List ℕ) → HoldsOfPrefix (Refuses line) most) → IsPrefixOf most known read → IsRefusal (λ line. Refuses line read) f
    → IsUnreadOrRefusal IsName (λ line. OfText known (Refuses line)) f
not_fetched IsName Refuses most known read f of p h = if_not_fetched {X = Unit {0}} IsName Refuses most known read (Err f) of p h

pub empty_schedule : IsSchedule [] []
empty_schedule = record { short = omega arith; few = omega arith; spells = nothing }

-- a text of which less was read than was wanted was read whole
pub read_whole : (most : ℕ) (known : Option (List ℕ)) (read : List ℕ) → IsPrefixOf most known read → length read < most → FetchesAll known read
read_whole most None read p few = record { text = read; is = tt; holds = refl }
read_whole most (Some all) read p few =
    let first : read ≡ take most all = p.first in
    let short : length all ≤ most = omega (arith, ap (λ (t : List ℕ). length t) first, length-take most all) in
    record { text = all; is = refl; holds = sym (first ∙ take_all most all short) }

-- a fetch keeps what is known of a text that is no standard input
pub text_kept : (held holds : List ℕ → Option (List ℕ)) (name : Option (Bor (List ℕ))) → KeepsFiles held holds
    → IfSome name (λ n. n.now ≢ codes "-") → known_text holds (option_map (λ n. n.now) name) ≡ known_text held (option_map (λ n. n.now) name)
text_kept held holds None kept other = refl
text_kept held holds (Some name) kept other = kept name.now other

-- a script that was read was read whole
pub read_script : (known : Option (List ℕ)) (read : List ℕ) (m : Meaning) → IsPrefixOf most_read known read → IsScript read m → ReadsScript known read m
read_script known read m p says = record { is = whole known p; says = says }
  where
    whole : (k : Option (List ℕ)) → IsPrefixOf most_read k read → IfSome k (λ all. read ≡ all)
    whole None p = tt
    whole (Some all) p =
        let first : read ≡ take most_read all = p.first in
        let few : length read ≤ most_bytes = says.short in
        let short : length all ≤ most_read = omega (arith, ap (λ (t : List ℕ). length t) first, length-take most_read all) in
        first ∙ take_all most_read all short
