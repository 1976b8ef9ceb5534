-- What an audit takes as fed, and what it asks of a mark and of a release.
use Rattle.std.specs.Prelude.{ℕ, ◌<◌, ◌≡◌, ◌≢◌, Bool, not, List, Option, Some, None, filter, map}
use Rattle.rp_base.specs.declared.legality.Fed.{Fed}
use Rattle.rp_base.specs.declared.legality.Flow.{Flow}
use Rattle.rp_base.specs.declared.legality.Released.{Released}
use Rattle.rp_base.specs.declared.node.Output.{Output}
use Rattle.rp_base.specs.declared.node.Packet.{Packet}
use Rattle.rp_app.specs.Application.{Application, after_one, zeros}
use Rattle.key_table.specs.Table.{Key}
use Rattle.proto_model.specs.Feeds.{Each, Pairwise, key_at}
use Rattle.proto_model.specs.Legal.{IsOutputIn}

-- each packet's mark is below those of the packets fed behind it
abbrev pub MarksRise : List Fed → Type 0
MarksRise feeds = Pairwise (λ (a b : Fed). a.packet.mark < b.packet.mark) feeds

-- what was fed stands in the order of events
abbrev pub EventsRise : List Fed → Type 0
EventsRise feeds = Pairwise (λ (a b : Fed). a.event < b.event) feeds

-- each packet's mark is the event that fed it
abbrev pub MarksAreEvents : List Fed → Type 0
MarksAreEvents feeds = Each (λ (f : Fed). f.packet.mark ≡ f.event) feeds

-- no two flows have one key
abbrev pub KeysDiffer : List Flow → Type 0
KeysDiffer flows = Pairwise (λ (a b : Flow). a.key ≢ b.key) flows

-- the mark was fed and has this key
abbrev pub HasKey : Application → List Fed → Key → ℕ → Type 0
HasKey app feeds key m = key_at app feeds m ≡ Some key

-- the cells after a packet, and its output, if there is one; without a packet the cells stay
abbrev pub processed : Application → List ℕ → Option Packet → List ℕ × Option Output
processed app cells None = (cells, None)
processed app cells (Some p) = (after_one app cells p, (app.plain cells p).1)

-- whether this is a key, where keys are asked for, or none, where none is
abbrev pub is_keyed : Bool → Option Key → Bool
is_keyed keyed None = not keyed
is_keyed keyed (Some key) = keyed

-- the marks of the releases with a key, or of those without one
abbrev pub marks_keyed : Application → List Fed → Bool → List Released → List ℕ
marks_keyed app feeds keyed releases = map (λ (r : Released). r.output.mark) (filter (λ (r : Released). is_keyed keyed (key_at app feeds r.output.mark)) releases)

-- a released mark without a key was fed, and its output is that of one switch
abbrev pub PlainIfKeyless : Application → List Fed → Released → Type 0
PlainIfKeyless app feeds r = key_at app feeds r.output.mark ≡ None → IsOutputIn app feeds (zeros app.cell_count) r.output
