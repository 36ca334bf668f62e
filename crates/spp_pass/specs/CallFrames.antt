-- Frames that close in a stretch of events, some of them in rows and others one by one.
use Rattle.std.specs.Prelude.{List, ◌++◌, map}
use Rattle.spp_site.specs.declared.closed_frame.ClosedFrame.{ClosedFrame}
use Rattle.spp_pass.specs.declared.calls.CallRow.{CallRow}
use Rattle.spp_pass.specs.declared.narrow_frame.NarrowFrame.{NarrowFrame}
use Rattle.spp_pass.specs.declared.stretch_calls.StretchCalls.{StretchCalls}
use Rattle.spp_pass.specs.declared.stretch_calls.CallsSoFar.{CallsSoFar}
use Rattle.spp_pass.specs.CallRows.{lone_row}

-- what a table counts of it
abbrev pub frame_of : NarrowFrame → ClosedFrame
frame_of f = record { local = f.local; work = f.work; span = f.span; top_site = f.top_site; top_caller = f.top_caller }

-- a row for it alone
abbrev pub call_of : NarrowFrame → CallRow
call_of f = lone_row f.site f.caller (frame_of f)

-- for each its row
abbrev pub calls_of : List NarrowFrame → List CallRow
calls_of fs = map call_of fs

-- all rows of a stretch
abbrev pub stretch_calls : StretchCalls → List CallRow
stretch_calls c = calls_of c.frames.items ++ c.rows.items

-- all rows so far
abbrev pub calls_so_far : CallsSoFar → List CallRow
calls_so_far c = calls_of c.frames.items ++ c.calls.rows.items
