-- What one fiber did to the words and learnt of them, and how each of its steps adds to it.
use Rattle.std.specs.Prelude.{ℕ, Bool, true, false, List, [], ◌∷◌, length, Option, Some, None, ◌==◌}
use Rattle.std.specs.List.{filter}
use Rattle.fx_term.specs.declared.begin.Begin.{Begin}
use Rattle.fx_term.specs.declared.outcome.Outcome.{Outcome}
use Rattle.fx_word.specs.declared.entry.Entry.{Entry}
use Rattle.fx_word.specs.StateWord.{end_kind, value_of}

-- of a fiber that began so, with this range, and has done nothing
abbrev pub new_entry : ℕ → Option (ℕ × Begin) → ℕ → ℕ → Entry
new_entry id begin next end = record {
  id = id;
  begin = begin;
  next = next;
  end = end;
  parts = [];
  asked = [];
  asked_with = [];
  seen = false;
  loaded = [];
  stored = None;
  stored_stamp = None;
  ended = None;
  told = [];
  learnt = [];
  learnt_stamps = [];
}

-- it raised the request's stamp of i to t, where it was lower
abbrev pub raising : ℕ → ℕ → Entry → Entry
raising i t e = record e { asked_with = (i, t) ∷ e.asked_with }

-- it set the request bit of i
abbrev pub setting : ℕ → Entry → Entry
setting i e = record e { asked = i ∷ e.asked }

-- it requested i, with the stamp t; with 0 from outside
abbrev pub asking : ℕ → ℕ → Entry → Entry
asking i t e = setting i (raising i t e)

-- it has seen a request, where it found one
abbrev pub seeing : Bool → Entry → Entry
seeing false e = e
seeing true e = record e { seen = true }

-- it loaded the stamp of its requests
abbrev pub loading : ℕ → Entry → Entry
loading t e = record e { loaded = t ∷ e.loaded }

-- it looked, and found a request with that stamp, if any
abbrev pub looking : Option ℕ → Entry → Entry
looking None e = e
looking (Some t) e = loading t (seeing true e)

-- it split the first number of its range off, which begins so
abbrev pub splitting : Begin → Entry → Entry
splitting b e = record e { next = b.end; parts = (e.next, b) ∷ e.parts }

-- it stored the number that it ends with
abbrev pub storing : ℕ → Entry → Entry
storing x e = record e { stored = Some x }

-- it stored the stamp that it ends with
abbrev pub storing_stamp : ℕ → Entry → Entry
storing_stamp t e = record e { stored_stamp = Some t }

-- it ended so
abbrev pub ending : Outcome → Entry → Entry
ending o e = record e { ended = Some o }

-- it ended so, with the stamp t
abbrev pub finished : Outcome → ℕ → Entry → Entry
finished o t e = ending o (storing_stamp t (storing (value_of o) e))

-- it was told of what kind i's end is, where i has ended
abbrev pub telling : ℕ → Option Outcome → Entry → Entry
telling i None e = e
telling i (Some o) e = record e { told = (i, end_kind o) ∷ e.told }

-- it learnt how i ended
abbrev pub learning : ℕ → Outcome → Entry → Entry
learning i o e = record e { learnt = (i, o) ∷ e.learnt }

-- it learnt with which stamp i ended
abbrev pub learning_stamp : ℕ → ℕ → Entry → Entry
learning_stamp i t e = record e { learnt_stamps = (i, t) ∷ e.learnt_stamps }

-- it found that i has ended so, with the stamp t
abbrev pub peeked : ℕ → Outcome → ℕ → Entry → Entry
peeked i o t e = learning_stamp i t (learning i o (telling i (Some o) e))

-- how often i stands among what was split off
abbrev pub splits_of : ℕ → List (ℕ × Begin) → ℕ
splits_of i ps = length (filter (λ (p : ℕ × Begin). p.0 == i) ps)
