-- Which words ask for a page of help, and which page is on which word.
use Rattle.std.specs.Prelude.{ℕ, Bool, ◌||◌, if◌then◌else◌, Option, Some, None, List, [], ◌∷◌, codes, bytes_eq}
use Rattle.std.specs.Option.{option_or}
use Rattle.fx_command.specs.declared.help.calls.TheConstants.{HELP, CHECK, REPLAY, TRACE, STEPS, RUN, RECORD, PICTURE, PICTURE_RUN, EXPLORE, SCHEDULE}
use Rattle.fx_command.specs.declared.help.scripts.TheConstants.{FORMS, QUEUE, MAIN}
use Rattle.fx_command.specs.declared.help.leaves.TheConstants.{PURE, RAISE, CANCELED, NEVER, CEDE}
use Rattle.fx_command.specs.declared.help.binding.TheConstants.{SEQ, LET, HANDLE, IF, FOR}
use Rattle.fx_command.specs.declared.help.masking.TheConstants.{MASK, POLL, ONCANCEL}
use Rattle.fx_command.specs.declared.help.resources.TheConstants.{BRACKET, BRACKETCASE, GUARANTEE, USING, FORCER}
use Rattle.fx_command.specs.declared.help.fibers.TheConstants.{START, JOIN, CANCEL, FIRST, RACE}
use Rattle.fx_command.specs.declared.help.queues.TheConstants.{OFFER, TAKE, TRYOFFER, TRYTAKE}

-- the word asks for help
abbrev pub is_help : List ℕ → Bool
is_help word = bytes_eq word (codes "help") || bytes_eq word (codes "--help") || bytes_eq word (codes "-h")

-- the word on which these words ask for help, which is `help` itself where there is no other
abbrev pub topic_of : List (List ℕ) → Option (List ℕ)
topic_of [] = None
topic_of (word ∷ []) = if is_help word then Some (codes "help") else None
topic_of (word ∷ topic ∷ []) = if is_help word then Some topic else None
topic_of (word ∷ topic ∷ more ∷ words) = None

abbrev pub calls_page : List ℕ → Option (List ℕ)
calls_page word =
    if bytes_eq word (codes "help") then Some HELP.now
    else if bytes_eq word (codes "check") then Some CHECK.now
    else if bytes_eq word (codes "replay") then Some REPLAY.now
    else if bytes_eq word (codes "trace") then Some TRACE.now
    else if bytes_eq word (codes "steps") then Some STEPS.now
    else if bytes_eq word (codes "run") then Some RUN.now
    else if bytes_eq word (codes "record") then Some RECORD.now
    else if bytes_eq word (codes "picture") then Some PICTURE.now
    else if bytes_eq word (codes "picture-run") then Some PICTURE_RUN.now
    else if bytes_eq word (codes "explore") then Some EXPLORE.now
    else if bytes_eq word (codes "schedule") then Some SCHEDULE.now
    else None

abbrev pub script_page : List ℕ → Option (List ℕ)
script_page word =
    if bytes_eq word (codes "forms") then Some FORMS.now
    else if bytes_eq word (codes "queue") then Some QUEUE.now
    else if bytes_eq word (codes "main") then Some MAIN.now
    else None

abbrev pub leaf_page : List ℕ → Option (List ℕ)
leaf_page word =
    if bytes_eq word (codes "pure") then Some PURE.now
    else if bytes_eq word (codes "raise") then Some RAISE.now
    else if bytes_eq word (codes "canceled") then Some CANCELED.now
    else if bytes_eq word (codes "never") then Some NEVER.now
    else if bytes_eq word (codes "cede") then Some CEDE.now
    else None

abbrev pub binding_page : List ℕ → Option (List ℕ)
binding_page word =
    if bytes_eq word (codes "seq") then Some SEQ.now
    else if bytes_eq word (codes "let") then Some LET.now
    else if bytes_eq word (codes "handle") then Some HANDLE.now
    else if bytes_eq word (codes "if") then Some IF.now
    else if bytes_eq word (codes "for") then Some FOR.now
    else None

abbrev pub masking_page : List ℕ → Option (List ℕ)
masking_page word =
    if bytes_eq word (codes "mask") then Some MASK.now
    else if bytes_eq word (codes "poll") then Some POLL.now
    else if bytes_eq word (codes "oncancel") then Some ONCANCEL.now
    else None

abbrev pub resource_page : List ℕ → Option (List ℕ)
resource_page word =
    if bytes_eq word (codes "bracket") then Some BRACKET.now
    else if bytes_eq word (codes "bracketcase") then Some BRACKETCASE.now
    else if bytes_eq word (codes "guarantee") then Some GUARANTEE.now
    else if bytes_eq word (codes "using") then Some USING.now
    else if bytes_eq word (codes "forcer") then Some FORCER.now
    else None

abbrev pub fiber_page : List ℕ → Option (List ℕ)
fiber_page word =
    if bytes_eq word (codes "start") then Some START.now
    else if bytes_eq word (codes "join") then Some JOIN.now
    else if bytes_eq word (codes "cancel") then Some CANCEL.now
    else if bytes_eq word (codes "first") then Some FIRST.now
    else if bytes_eq word (codes "race") then Some RACE.now
    else None

abbrev pub queue_page : List ℕ → Option (List ℕ)
queue_page word =
    if bytes_eq word (codes "offer") then Some OFFER.now
    else if bytes_eq word (codes "take") then Some TAKE.now
    else if bytes_eq word (codes "tryoffer") then Some TRYOFFER.now
    else if bytes_eq word (codes "trytake") then Some TRYTAKE.now
    else None

-- the page on a form of a term
abbrev pub form_page : List ℕ → Option (List ℕ)
form_page word = option_or (leaf_page word) (option_or (binding_page word) (option_or (masking_page word) (option_or (resource_page word)
    (option_or (fiber_page word) (queue_page word)))))

-- the page on a word, if there is one
abbrev pub page_on : List ℕ → Option (List ℕ)
page_on word = option_or (calls_page word) (option_or (script_page word) (form_page word))
