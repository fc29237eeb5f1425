-- What a pass knows: the entry of its own fiber, and those of the passes that it took in.
use Rattle.std.specs.Prelude.{◌≡◌, ◌≢◌, ℕ, ◌+◌, List, [], ◌∷◌, ◌++◌, ◌⊎◌}
use Rattle.fx_term.specs.Lists.{Among}
use Rattle.fx_term.specs.Queue.{cut}
use Rattle.fx_term.specs.declared.queue_event.QueueEvent.{QueueEvent}
use Rattle.fx_queue.specs.declared.entry.Entry.{Entry}
use Rattle.fx_queue.specs.declared.stage.Stage.TheVariants.{Blank, Live, Spent}
use Rattle.fx_queue.specs.declared.pass_view.PassView.{PassView}
use Rattle.fx_queue.specs.Entry.{new_entry, acting}

-- before the queue has its capacity
abbrev pub blank_view : PassView
blank_view = record { stage = Blank; cap = 0; fibers = 0; own = new_entry 0 0 0 []; taken = [] }

-- of the main fiber, which has all other numbers in its range
abbrev pub first_view : ℕ → ℕ → PassView
first_view cap fibers = record { stage = Live; cap = cap; fibers = fibers; own = new_entry 0 1 fibers []; taken = [] }

-- of a pass that another one took in
abbrev pub nobody_view : PassView
nobody_view = record { stage = Spent; cap = 0; fibers = 0; own = new_entry 0 0 0 []; taken = [] }

-- what is left of a view by a split, and the view of the new pass: that of the first number, with the numbers after it up to end as its range, which
-- has seen what its starter has
abbrev pub kept_part : ℕ → PassView → PassView
kept_part end v = record v {
  own = record (v.own) {
    next = end;
    parts = v.own.parts ++ v.own.next ∷ [];
    handed = v.own.handed ++ record { id = v.own.next; seen = v.own.seen } ∷ [];
  };
}

abbrev pub given_part : ℕ → PassView → PassView
given_part end v = record {
  stage = Live;
  cap = v.cap;
  fibers = v.fibers;
  own = new_entry v.own.next (v.own.next + 1) end v.own.seen;
  taken = [];
}

-- the view after an event of its own fiber, before which that was the history; the second one is the same with its stamp
abbrev pub with_act : PassView → List QueueEvent → QueueEvent → QueueEvent → PassView
with_act v log a b = record v { own = acting log a b v.own }

-- the entry is the view's own, or one that it took in
abbrev pub In : Entry → PassView → Type 0
In e v = (e ≡ v.own) ⊎ Among e v.taken

-- its own entry first
abbrev pub entries : PassView → List Entry
entries v = v.own ∷ v.taken

-- the first view took the second one in
abbrev pub joined : PassView → PassView → PassView
joined v w = record v { taken = entries w ++ v.taken }

-- the pass is the main fiber's, and has taken in all that were split off
abbrev pub IsWhole : PassView → Type 0
IsWhole v = (v.own.id ≡ 0) × ((e : Entry) → In e v → (i : ℕ) → Among i e.parts → (d : Entry) × In d v × (d.id ≡ i))

-- only fibers of this pass have events in the history
abbrev pub IsOnlyOf : PassView → List QueueEvent → Type 0
IsOnlyOf v log = (f : ℕ) → ((e : Entry) → In e v → e.id ≢ f) → cut f log ≡ []
