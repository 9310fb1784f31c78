-- Lines of the script, those of REPLAY.md's example first, and the command that each one is.
use Prim.Native.String.{String}
use Rattle.std.specs.Prelude.{◌≡◌, List, [], ◌∷◌, map}
use Rattle.rules_plan.specs.Print.{text}
use Rattle.script_commands.specs.declared.command.Command.{Command}
use Rattle.script_commands.specs.declared.command.Command.TheVariants.{Skip, Bad, Load, Clear, TimeCode, Request, Reply, Reading, Out, Watchdog, SetWatchdog, Sheet, Next, Blank, Holds}
use Rattle.script_commands.specs.Script.{command_of}

unfoldable pub samples : List (String × Command)
samples =
    ("load 0500080000005a0000006e", Load 5)
    ∷ ("tc 0 1000 136", TimeCode 0 1_000 136)
    ∷ ("clk 1111", Reading 1_111)
    -- the words
    ∷ ("", Skip)
    ∷ ("# clear", Skip)
    ∷ ("clear", Clear)
    ∷ ("clear ", Bad)
    ∷ (" clear", Bad)
    ∷ ("wd", Watchdog)
    ∷ ("wd 0", Bad)
    -- the numbers and their ranges
    ∷ ("clk 0001111", Reading 1_111)
    ∷ ("clk", Bad)
    ∷ ("clk ", Bad)
    ∷ ("clk  1", Bad)
    ∷ ("clk 1:", Bad)
    ∷ ("clk 4294967295", Reading 4_294_967_295)
    ∷ ("clk 4294967296", Bad)
    ∷ ("tc 255 0 4096", TimeCode 255 0 4_096)
    ∷ ("tc 256 0 0", Bad)
    ∷ ("tc 0 0 4097", Bad)
    ∷ ("req 1 3 255 65535", Request 1 3 255 65_535)
    ∷ ("req 1 3 255", Bad)
    ∷ ("rep 1 65535 255", Reply 1 65_535 255)
    ∷ ("rep 1 65536 255", Bad)
    ∷ ("out 32768", Out 32_768)
    ∷ ("out 32769", Bad)
    ∷ ("setwd 1 0 2 90 110", SetWatchdog 1 0 2 90 110)
    ∷ ("sheet 4 200 256 5000 5000 5000 5000", Sheet 4 4 200 256 5_000 5_000 5_000 5_000)
    ∷ ("sheet 255 65535 65535 1 2 3 4294967295", Sheet 255 255 65_535 65_535 1 2 3 4_294_967_295)
    ∷ ("sheet 256 200 256 1 2 3 4", Bad)
    ∷ ("sheet 4 65536 256 1 2 3 4", Bad)
    ∷ ("sheet 4 200 65536 1 2 3 4", Bad)
    ∷ ("sheet 4 200 256 1 2 3 4294967296", Bad)
    ∷ ("sheet 4 200 256 1 2 3", Bad)
    ∷ ("sheet 4 200 256 1 2 3 4 5", Bad)
    ∷ ("sheet2 4 7 200 256 5000 5001 5002 5003", Sheet 4 7 200 256 5_000 5_001 5_002 5_003)
    ∷ ("sheet2 255 255 65535 65535 1 2 3 4294967295", Sheet 255 255 65_535 65_535 1 2 3 4_294_967_295)
    ∷ ("sheet2 256 7 200 256 1 2 3 4", Bad)
    ∷ ("sheet2 4 256 200 256 1 2 3 4", Bad)
    ∷ ("sheet2 4 7 65536 256 1 2 3 4", Bad)
    ∷ ("sheet2 4 7 200 65536 1 2 3 4", Bad)
    ∷ ("sheet2 4 7 200 256 1 2 3 4294967296", Bad)
    ∷ ("sheet2 4 7 200 256 1 2 3", Bad)
    ∷ ("sheet2 4 7 200 256 1 2 3 4 5", Bad)
    ∷ ("sheet22 4 7 200 256 1 2 3 4", Bad)
    ∷ ("next 1 3 256 63", Next 1 3 256 63)
    ∷ ("next 255 254 65535 253", Next 255 254 65_535 253)
    ∷ ("next 256 3 256 63", Bad)
    ∷ ("next 1 256 256 63", Bad)
    ∷ ("next 1 3 65536 63", Bad)
    ∷ ("next 1 3 256 256", Bad)
    ∷ ("next 1 3 256", Bad)
    ∷ ("next 1 3 256 63 0", Bad)
    ∷ ("nex 1 3 256 63", Bad)
    ∷ ("blank", Blank)
    ∷ ("blank 0", Bad)
    ∷ ("blank ", Bad)
    -- the bytes
    ∷ ("load -", Load 5)
    ∷ ("load 5", Bad)
    ∷ ("load 5A", Bad)
    ∷ ("load 5g", Bad)
    ∷ ("load 5a ", Bad)
    ∷ ("holds 0500080000005a0000006e", Holds 6)
    ∷ ("holds -", Holds 6)
    ∷ ("holds", Bad)
    ∷ ("holds 5", Bad)
    ∷ ("holds 5A", Bad)
    ∷ ("holds 5a 5a", Bad)
    ∷ ("hold 5a", Bad)
    ∷ []

-- every line is the command beside it
unfoldable pub Samples : Type 0
Samples = map (λ (s : String × Command). command_of (text s.0)) samples ≡ map (λ (s : String × Command). s.1) samples
