-- The table of a sample's fabric.
use Rattle.std.specs.Prelude.{ℕ, List, [], ◌∷◌, ◌++◌, codes, replicate}
use Rattle.fab_sample.specs.Lines.{Line, cells}

-- pads in the west, pads in the east, and logic between them
abbrev pub grid_row : (size : ℕ) → Line
grid_row size = cells (codes "SW" ∷ replicate size (codes "SLOG") ++ codes "SE" ∷ [])

abbrev pub grid_lines : (size : ℕ) → List Line
grid_lines size = codes "FabricBegin" ∷ replicate size (grid_row size) ++ codes "FabricEnd" ∷ []

abbrev pub west_block : List Line
west_block =
    codes "TILE,SW"
    ∷ codes "EAST,E1BEG,1,0,NULL,6"
    ∷ codes "WEST,NULL,-1,0,W1END,6"
    ∷ codes "JUMP,NULL,0,0,GND,1"
    ∷ codes "JUMP,NULL,0,0,VCC,1"
    ∷ codes "BEL,IO_1_bidirectional_frame_config_pass.v,A_"
    ∷ codes "BEL,IO_1_bidirectional_frame_config_pass.v,B_"
    ∷ codes "MATRIX,SW.list"
    ∷ codes "EndTILE"
    ∷ []

abbrev pub logic_block : List Line
logic_block =
    codes "TILE,SLOG"
    ∷ codes "NORTH,N1BEG,0,-1,N1END,6"
    ∷ codes "EAST,E1BEG,1,0,E1END,6"
    ∷ codes "SOUTH,S1BEG,0,1,S1END,6"
    ∷ codes "WEST,W1BEG,-1,0,W1END,6"
    ∷ codes "JUMP,NULL,0,0,GND,1"
    ∷ codes "JUMP,NULL,0,0,VCC,1"
    ∷ codes "BEL,LUT4c_frame_config.v,LA_"
    ∷ codes "BEL,LUT4c_frame_config.v,LB_"
    ∷ codes "MATRIX,SLOG.list"
    ∷ codes "EndTILE"
    ∷ []

abbrev pub east_block : List Line
east_block =
    codes "TILE,SE"
    ∷ codes "WEST,W1BEG,-1,0,NULL,6"
    ∷ codes "EAST,NULL,1,0,E1END,6"
    ∷ codes "JUMP,NULL,0,0,GND,1"
    ∷ codes "JUMP,NULL,0,0,VCC,1"
    ∷ codes "BEL,IO_1_bidirectional_frame_config_pass.v,A_"
    ∷ codes "BEL,IO_1_bidirectional_frame_config_pass.v,B_"
    ∷ codes "MATRIX,SE.list"
    ∷ codes "EndTILE"
    ∷ []

abbrev pub fabric_lines : (size : ℕ) → List Line
fabric_lines size = grid_lines size ++ west_block ++ logic_block ++ east_block
