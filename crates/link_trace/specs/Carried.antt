-- What a carried run has written and told: all that it does outside, or a front of it.
use Rattle.std.specs.Prelude.{ℕ, ◌≡◌, Bool, if◌then◌else◌, List, [], ◌∷◌, ◌++◌, Option, map}
use Rattle.rp_base.specs.Outside.{Grows, GrowsByFront}
use Rattle.rp_base.specs.declared.event.Event.{Event}
use Rattle.rp_base.specs.declared.node.Node.{Node}
use Rattle.rp_app.specs.Application.{Application}
use Rattle.proto_data.specs.declared.message.Msg.{Msg}
use Rattle.proto_model.specs.Lines.{Line, Send, without_sends}
use Rattle.proto_model.specs.Pumping.{Received, linked_run}
use Rattle.proto_model.specs.World.{Setup}
use Rattle.link_trace.specs.Doings.{Doing, Says, Sends, Hears, all_did, answers_of, frames_of, lines_of}

-- the lines that a report shows of these, with the frames that are sent or without them
abbrev pub seen : Bool → List Line → List Line
seen frames ls = if frames then ls else without_sends ls

-- the messages whose frames these lines tell
abbrev pub sends_of : List Line → List Msg
sends_of [] = []
sends_of (Send event frame from to kind m ∷ ls) = m ∷ sends_of ls
sends_of (l ∷ ls) = sends_of ls

-- a datagram as the link tells it: its sender, its addressee and its bytes
abbrev pub Datagram : Type 0
Datagram = Node × Node × List ℕ

-- what an object tells before a run and after it
abbrev pub Told : Type 0 → Type 0
Told A = Option (List A) × Option (List A)

-- a frame as the link tells it
abbrev pub datagram_of : (Msg → List ℕ) → Msg → Datagram
datagram_of spelled m = (m.from, m.to, spelled m)

-- All of a run was done over a link that gave these answers: its lines are written as this text, its frames went to the link each once
-- and in order, and each answer was taken.
pub record IsWhole (spelled : Msg → List ℕ) (text : List Line → List ℕ) (app : Application) (setup : Setup) (events : List Event) (got : List Received) (written : Told ℕ) (sent : Told Datagram) : Type 0 where
  pub lines : Grows written.0 written.1 (text (lines_of (all_did spelled app setup events got)))
  pub frames : Grows sent.0 sent.1 (map (datagram_of spelled) (linked_run spelled app setup events got).world.frames)
  pub answers : (linked_run spelled app setup events got).rest ≡ []

-- what comes next is a call of the link, or nothing
abbrev pub CallsNext : List Doing → Type 0
CallsNext [] = Unit {0}
CallsNext (Says l ∷ ds) = ⊥
CallsNext (Sends m ∷ ds) = Unit {0}
CallsNext (Hears x ∷ ds) = Unit {0}

-- A front of a run was done, up to a call of the link or to its end, had the link gone on to give more answers: the calls that answered are
-- its first ones, and of the text of its lines that much is written.
pub record IsFront (Wrote : Option (List ℕ) → Option (List ℕ) → List ℕ → Type 0) (spelled : Msg → List ℕ) (text : List Line → List ℕ) (app : Application) (setup : Setup) (events : List Event) (got : List Received) (written : Told ℕ) (sent : Told Datagram) : Type 0 where
  pub more : List Received
  pub front : List Doing
  pub behind : List Doing
  pub whole : all_did spelled app setup events (got ++ more) ≡ front ++ behind
  pub next : CallsNext behind
  pub lines : Wrote written.0 written.1 (text (lines_of front))
  pub frames : Grows sent.0 sent.1 (map (datagram_of spelled) (frames_of front))
  pub answers : answers_of front ≡ got

-- where memory ran out or a write failed, some of that text is written
abbrev pub IsPart : (Msg → List ℕ) → (List Line → List ℕ) → Application → Setup → List Event → List Received → Told ℕ → Told Datagram → Type 0
IsPart spelled text app setup events got written sent = IsFront GrowsByFront spelled text app setup events got written sent

-- where a call of the link failed, the whole of it
abbrev pub IsCut : (Msg → List ℕ) → (List Line → List ℕ) → Application → Setup → List Event → List Received → Told ℕ → Told Datagram → Type 0
IsCut spelled text app setup events got written sent = IsFront Grows spelled text app setup events got written sent
